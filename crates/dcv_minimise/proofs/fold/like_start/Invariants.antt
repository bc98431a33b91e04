use Rattle.std.proofs.Common.{take}
use Rattle.std.specs.List.{All}
use Rattle.dcv_minimise.specs.Classes.{HaveSameRow}
use Rattle.dcv_minimise.specs.Keys.{IsKeys, IsKeyOf}
use Rattle.dcv_minimise.proofs.fold.like_start.Given as goal

-- none of the states so far has the start's row
abbrev pub invariant-loop-place : goal.invariant-loop-place
invariant-loop-place l = record {
  keys : IsKeys l.raw l.blocks l.keys;
  own : IsKeyOf l.raw l.blocks l.keys.renumbering.own l.start l.own;
  earlier : All (λ first. ¬ HaveSameRow l.raw l.blocks l.start first) (take l.place l.state-items);
}
