use Rattle.std.proofs.Common.{◌≡◌, ◌++◌, ◌+◌, ◌*◌, max, drop, map}
use Rattle.dcv_syntax.specs.declared.propositions.Prop.{size-Prop}
use Rattle.dcv_syntax.specs.declared.propositions.PropOperand.{PropOperand}
use Rattle.dcv_syntax.specs.Views.{plain_prop_kind}
use Rattle.dcv_scope.proofs.WorkLeft.{prop_depth, all_bodies}
use Rattle.dcv_scope.specs.CoreOf.{truth_of}
use Rattle.dcv_core.specs.TruthViews.{plain_truth}
use Rattle.dcv_scope.specs.Expansions.{sight_of, used_from, truths_in}
use Rattle.dcv_scope.proofs.expansion.Sight.+truths.Given as goal

-- In each loop those so far and those to come are all of them.
abbrev pub invariant-arguments-loop-place : goal.invariant-arguments-loop-place
invariant-arguments-loop-place l =
    map plain_truth l.truths.items ++ used_from l.measure l.place (truths_in (sight_of l.self) (drop l.place l.arguments))
    ≡ used_from l.measure 0 (truths_in (sight_of l.self) l.arguments)

abbrev pub invariant-prop_operands-loop-operand : goal.invariant-prop_operands-loop-operand
invariant-prop_operands-loop-operand l =
    let truth = λ (o : PropOperand). truth_of (sight_of l.self) (plain_prop_kind o.prop.kind) in
    map plain_truth l.truths.items ++ map truth (drop l.operand-index l.operands) ≡ map truth l.operands

-- a call of a macro goes on with fewer macros, and every other call deeper into the proposition
abbrev pub decreases-form : goal.decreases-form
decreases-form l = 4 * (all_bodies prop_depth l.self.now.macros.now + goal.size-form l)

abbrev pub decreases-prop : goal.decreases-prop
decreases-prop l = 4 * (all_bodies prop_depth l.self.now.macros.now + goal.size-prop l) + 1

abbrev pub decreases-opposite : goal.decreases-opposite
decreases-opposite l = 4 * (all_bodies prop_depth l.self.now.macros.now + goal.size-opposite l) + 2

abbrev pub decreases-shifted : goal.decreases-shifted
decreases-shifted l = 4 * (all_bodies prop_depth l.self.now.macros.now + goal.size-shifted l) + 2

abbrev pub decreases-implication : goal.decreases-implication
decreases-implication l = 4 * (all_bodies prop_depth l.self.now.macros.now + max (size-Prop l.premise.now) (size-Prop l.conclusion.now)) + 3

abbrev pub decreases-arguments : goal.decreases-arguments
decreases-arguments l = 4 * (all_bodies prop_depth l.self.now.macros.now + goal.size-arguments l) + 2

abbrev pub decreases-named : goal.decreases-named
decreases-named l = 4 * (all_bodies prop_depth l.self.now.macros.now + goal.size-named l) + 3

abbrev pub decreases-prop_operands : goal.decreases-prop_operands
decreases-prop_operands l = 4 * (all_bodies prop_depth l.self.now.macros.now + goal.size-prop_operands l)
