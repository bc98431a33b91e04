use Rattle.std.proofs.Common.{◌≡◌, [], take, drop}
use Rattle.dcv_scope.specs.Names.{Declared, texts, occurrences_in_list, first_fault, nothing_in_sight}
use Rattle.dcv_scope.proofs.naming.fault_of_variables.Given as goal

-- what is left has the first fault of the whole
abbrev pub invariant-loop-place : goal.invariant-loop-place
invariant-loop-place l =
    first_fault (occurrences_in_list Declared nothing_in_sight (texts (take l.place l.names)) (drop l.place l.names))
    ≡ first_fault (occurrences_in_list Declared nothing_in_sight [] l.names)
