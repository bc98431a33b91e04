use Rattle.std.proofs.Common.{◌≡◌, length}
use Rattle.dcv_stuck.specs.Sink.{HasRows}
use Rattle.dcv_stuck.proofs.sink.rows_of.Given as goal

abbrev pub invariant-loop-state : goal.invariant-loop-state
invariant-loop-state l = record {
  rows : HasRows l.raw l.new.own l.rows.items;
  count : length l.rows.items ≡ l.state;
  from : l.new.from ≡ l.raw.arena;
  numbers : l.new.numbers ≡ l.numbers;
}
