use Rattle.std.proofs.Common.{◌≡◌, ◌++◌}
use Rattle.dcv_sets.specs.Bits.{has_state, states_below}
use Rattle.dcv_sets.proofs.bits.push_states.Given as goal

-- the states so far were added
abbrev pub invariant-loop-state : goal.invariant-loop-state
invariant-loop-state l = l.to.items ≡ l.initial.to.items ++ states_below (has_state l.words) l.state
