use Rattle.std.proofs.Common.{◌≡◌, ◌++◌, drop}
use Rattle.dcv_scope.specs.Expansions.{names_of, parameter_slots}
use Rattle.dcv_scope.proofs.expansion.relays.with_parameters.Given as goal

-- the names so far and those to come are all of them
abbrev pub invariant-loop-name : goal.invariant-loop-name
invariant-loop-name l = names_of l.names.items ++ parameter_slots (drop l.name-index l.parameters) ≡ parameter_slots l.parameters
