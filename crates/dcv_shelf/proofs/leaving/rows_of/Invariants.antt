use Rattle.std.proofs.Common.{◌≡◌, length}
use Rattle.dcv_renumber.specs.Renumbered.{HoldsNew}
use Rattle.dcv_shelf.specs.Stored.{HasRows}
use Rattle.dcv_shelf.proofs.leaving.rows_of.Given as goal

-- the states so far have their rows
abbrev pub invariant-loop-state : goal.invariant-loop-state
invariant-loop-state l = record {
  rows : HasRows l.arena l.stored l.own l.rows.items;
  count : length l.rows.items ≡ l.state-index;
  limit : l.own.limit ≡ l.stored.nodes;
  from : l.remapping.from ≡ l.arena;
  new : l.remapping.numbers ≡ l.numbers;
  holds : HoldsNew l.remapping l.own;
}
