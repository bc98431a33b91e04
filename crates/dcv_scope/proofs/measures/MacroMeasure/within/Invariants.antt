use Rattle.std.proofs.Common.{◌≡◌, ◌++◌, map, take, drop}
use Rattle.std.specs.Prelude.{Option}
use Rattle.dcv_scope.specs.declared.measures.Share.{Share}
use Rattle.dcv_scope.specs.Linear.{capped_share}
use Rattle.dcv_scope.specs.Walk.{share_within}
use Rattle.dcv_scope.proofs.measures.MacroMeasure.within.Given as goal

-- the shares so far are done, and the others as they were
abbrev pub invariant-loop-place : goal.invariant-loop-place
invariant-loop-place l =
    l.shares ≡ map (λ (s : Option Share). capped_share (share_within l.share s)) (take l.place l.self.shares) ++ drop l.place l.self.shares
