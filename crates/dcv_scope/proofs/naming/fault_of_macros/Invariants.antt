use Rattle.std.proofs.Common.{◌≡◌, [], take, drop}
use Rattle.dcv_scope.specs.Sights.{faults_of_macros}
use Rattle.dcv_scope.proofs.naming.fault_of_macros.Given as goal

-- what is left has the first fault of the whole
abbrev pub invariant-loop-place : goal.invariant-loop-place
invariant-loop-place l =
    faults_of_macros l.file.variables.items (take l.place l.file.macros.items) (drop l.place l.file.macros.items)
    ≡ faults_of_macros l.file.variables.items [] l.file.macros.items
