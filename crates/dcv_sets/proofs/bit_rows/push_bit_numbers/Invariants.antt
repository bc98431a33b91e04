use Rattle.std.proofs.Common.{◌≡◌, ◌++◌}
use Rattle.dcv_sets.specs.Bits.{has_state, states_below}
use Rattle.dcv_sets.specs.Rows.{numbers_of}
use Rattle.dcv_sets.proofs.bit_rows.push_bit_numbers.Given as goal

-- the numbers of the states so far were added
abbrev pub invariant-loop-state : goal.invariant-loop-state
invariant-loop-state l = l.to.items ≡ l.initial.to.items ++ numbers_of l.column (states_below (has_state l.words) l.state)
