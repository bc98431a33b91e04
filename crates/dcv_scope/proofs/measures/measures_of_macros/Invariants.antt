use Rattle.std.proofs.Common.{◌≡◌, map, take}
use Rattle.dcv_syntax.specs.Views.{plain_macro}
use Rattle.dcv_scope.specs.Walk.{linear_measures}
use Rattle.dcv_scope.proofs.measures.measures_of_macros.Given as goal

-- those so far are measured
abbrev pub invariant-loop-place : goal.invariant-loop-place
invariant-loop-place l = l.measures.items ≡ linear_measures l.file.variables.items (map plain_macro (take l.place l.file.macros.items))
