use Rattle.std.proofs.Common.{◌≡◌, ℕ, ◌<◌, length, get_or, take}
use Rattle.std.specs.List.{All}
use Rattle.dcv_minimise.specs.Keys.{IsKeys, IsKeyed, states_in}
use Rattle.dcv_minimise.specs.Division.{IsDividing, IsSettled}
use Rattle.dcv_minimise.proofs.refine.division.settle_all.Given as goal

-- the listed states so far are settled
abbrev pub invariant-loop-keyed : goal.invariant-loop-keyed
invariant-loop-keyed l = record {
  keys : IsKeys l.raw l.blocks l.division.keys;
  keyed : All (IsKeyed l.raw l.blocks l.division.keys.renumbering.own) l.listed;
  dividing : IsDividing l.raw l.blocks (length l.fn.witness.items) l.division.keys.renumbering.own l.witness.items l.division.parts.keys l.division.moves.items;
  settled : All (IsSettled l.raw l.blocks l.witness.items l.division.moves.items) (take l.keyed-index (states_in l.listed));
  firsts : (block : ℕ) → block < length l.fn.witness.items → get_or l.witness.items block 0 ≡ get_or l.fn.witness.items block 0;
  count : l.division.count ≡ length l.fn.witness.items;
}
