use Rattle.std.proofs.Common.{◌≡◌, map, take}
use Rattle.dcv_syntax.specs.Views.{plain_macro}
use Rattle.dcv_logic.specs.Environment.{found}
use Rattle.dcv_scope.specs.Walk.{declared_alone, with_linears}
use Rattle.dcv_scope.proofs.measures.Sight.called.Given as goal

-- what is left has the answer
abbrev pub invariant-loop-place : goal.invariant-loop-place
invariant-loop-place l =
    found (with_linears (declared_alone l.self.declared.now) (map plain_macro (take l.place l.self.macros.now))).macros l.name
    ≡ found (with_linears (declared_alone l.self.declared.now) (map plain_macro l.self.macros.now)).macros l.name
