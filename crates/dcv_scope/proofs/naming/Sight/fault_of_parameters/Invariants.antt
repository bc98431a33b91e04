use Rattle.std.proofs.Common.{◌≡◌, [], take, drop}
use Rattle.dcv_scope.specs.Names.{Parameter, texts, occurrences_in_list, first_fault}
use Rattle.dcv_scope.specs.Sights.{in_sight_of}
use Rattle.dcv_scope.proofs.naming.Sight.fault_of_parameters.Given as goal

-- what is left has the first fault of the whole
abbrev pub invariant-loop-place : goal.invariant-loop-place
invariant-loop-place l =
    first_fault (occurrences_in_list Parameter (in_sight_of l.self) (texts (take l.place l.names)) (drop l.place l.names))
    ≡ first_fault (occurrences_in_list Parameter (in_sight_of l.self) [] l.names)
