use Rattle.std.proofs.Common.{◌≡◌, length}
use Rattle.dcv_minimise.specs.Folded.{HasRows}
use Rattle.dcv_minimise.proofs.fold.rows_of.Given as goal

-- the states so far have their rows
abbrev pub invariant-loop-state : goal.invariant-loop-state
invariant-loop-state l = record {
  rows : HasRows l.raw l.states l.numbers l.new.own l.rows.items;
  count : length l.rows.items ≡ l.state-index;
  from : l.new.from ≡ l.raw.arena;
  new : l.new.numbers ≡ l.numbers;
}
