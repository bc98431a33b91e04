use Rattle.std.proofs.Common.{◌≡◌, ◌++◌, map, take, drop}
use Rattle.dcv_scope.specs.Linear.{capped_share}
use Rattle.dcv_scope.specs.Walk.{all_beside}
use Rattle.dcv_scope.proofs.measures.MacroMeasure.beside.Given as goal

-- the shares so far are of both, and the others as they were
abbrev pub invariant-loop-place : goal.invariant-loop-place
invariant-loop-place l =
    l.shares ≡ map capped_share (all_beside (take l.place l.self.shares) (take l.place l.other.shares)) ++ drop l.place l.self.shares
