use Rattle.std.proofs.Common.{◌≡◌, ◌+◌, ◌*◌, drop}
use Rattle.dcv_scope.proofs.WorkLeft.{work_left, work, list_work}
use Rattle.dcv_core.specs.Core.{CoreTree}
use Rattle.dcv_scope.specs.CoreOf.{joined, list_core}
use Rattle.dcv_core.specs.Steps.{Made}
use Rattle.dcv_scope.specs.Expansions.{sight_of, join_of, unit_of, operands_of}
use Rattle.dcv_scope.proofs.expansion.Sight.+cores.Given as goal

-- what was made and the operands to come join to the whole
abbrev pub invariant-list-loop-operand : goal.invariant-list-loop-operand
invariant-list-loop-operand l =
    let sight = sight_of l.self in
    (so_far : CoreTree) × (Made l.fn.core l.self.slots so_far l.core l.last)
    × (joined sight (join_of l.connective) l.first.span (operands_of (drop l.operand-index l.rest)) so_far
    ≡ list_core sight (join_of l.connective) (unit_of l.connective) (operands_of l.operands) l.fn.span)

-- a call of a macro goes on with fewer macros, and every other call deeper into the formula
abbrev pub decreases-formula : goal.decreases-formula
decreases-formula l = 3 * (work_left l.self.now + work l.formula.now.kind)

abbrev pub decreases-call : goal.decreases-call
decreases-call l = 3 * work_left l.self.now

abbrev pub decreases-not : goal.decreases-not
decreases-not l = 3 * (work_left l.self.now + work l.body.now.kind) + 1

abbrev pub decreases-star : goal.decreases-star
decreases-star l = 3 * (work_left l.self.now + work l.body.now.kind) + 1

abbrev pub decreases-implies : goal.decreases-implies
decreases-implies l = 3 * (work_left l.self.now + (work l.premise.now.kind + work l.conclusion.now.kind)) + 2

abbrev pub decreases-somewhere : goal.decreases-somewhere
decreases-somewhere l = 3 * (work_left l.self.now + work l.body.now.kind) + 1

abbrev pub decreases-everywhere : goal.decreases-everywhere
decreases-everywhere l = 3 * (work_left l.self.now + work l.body.now.kind) + 2

abbrev pub decreases-exists : goal.decreases-exists
decreases-exists l = 3 * (work_left l.self.now + work l.body.now.kind) + 1

abbrev pub decreases-for_all : goal.decreases-for_all
decreases-for_all l = 3 * (work_left l.self.now + work l.body.now.kind) + 2

abbrev pub decreases-list : goal.decreases-list
decreases-list l = 3 * (work_left l.self.now + list_work l.operands.now)
