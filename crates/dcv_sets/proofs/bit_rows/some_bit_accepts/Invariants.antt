use Rattle.std.proofs.Common.{◌≡◌, false}
use Rattle.std.specs.List.{list_any}
use Rattle.dcv_sets.specs.Bits.{has_state, states_below}
use Rattle.dcv_sets.proofs.bit_rows.some_bit_accepts.Given as goal

-- none of the states so far accepts
abbrev pub invariant-loop-state : goal.invariant-loop-state
invariant-loop-state g l = list_any (g.T.Table.automaton l.table).accepting (states_below (has_state l.words) l.state) ≡ false
