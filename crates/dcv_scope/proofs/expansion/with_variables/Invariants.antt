use Rattle.std.proofs.Common.{◌≡◌, ◌++◌, drop}
use Rattle.dcv_scope.specs.CoreOf.{declared_slots}
use Rattle.dcv_scope.specs.Expansions.{names_of}
use Rattle.dcv_scope.proofs.expansion.with_variables.Given as goal

-- the names so far and the variables to come are all of them
abbrev pub invariant-loop-slot : goal.invariant-loop-slot
invariant-loop-slot l =
    names_of l.names.items ++ declared_slots l.slot (drop l.slot l.variables) ≡ names_of l.fn.names.items ++ declared_slots 0 l.variables
