use Rattle.std.proofs.Common.{◌≡◌, take}
use Rattle.std.specs.List.{fold}
use Rattle.dcv_sets.specs.Bits.{with_state}
use Rattle.dcv_sets.proofs.bits.add_bits.Given as goal

-- the states so far were added
abbrev pub invariant-loop-state : goal.invariant-loop-state
invariant-loop-state l = l.words ≡ fold with_state l.initial.words (take l.state-index l.states)
