use Rattle.std.proofs.Common.{◌≡◌, ◌++◌, ◌-◌, length, take}
use Rattle.smallvec.specs.SmallVec.{HasRoomFor}
use Rattle.dcv_sets.specs.Rows.{numbers_of}
use Rattle.dcv_sets.proofs.rows.push_numbers.Given as goal

-- the numbers of the states so far were added, and there is room for the others
abbrev pub invariant-loop-state : goal.invariant-loop-state
invariant-loop-state l = record {
  added : l.to.items ≡ l.initial.to.items ++ numbers_of l.column (take l.state-index l.states);
  room : HasRoomFor l.to (length l.states - l.state-index);
}
