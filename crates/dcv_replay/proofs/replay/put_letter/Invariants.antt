use Rattle.std.proofs.Common.{◌≡◌, ◌+◌, drop, length}
use Rattle.dcv_replay.specs.Program.{with_letter}
use Rattle.dcv_replay.proofs.replay.put_letter.Given as goal

-- putting in the values that are left puts in all
abbrev pub invariant-loop-slot : goal.invariant-loop-slot
invariant-loop-slot l = record {
  rest : with_letter l.place (drop l.slot l.letter) l.store ≡ with_letter l.inputs l.letter l.initial.store;
  long : length l.store ≡ length l.initial.store;
  place_is : l.place ≡ l.inputs + l.slot;
}
