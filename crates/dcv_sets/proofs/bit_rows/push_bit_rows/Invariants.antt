use Rattle.std.proofs.Common.{◌≡◌, ◌++◌}
use Rattle.std.specs.List.{All}
use Rattle.dcv_sets.specs.Bits.{has_state, states_below}
use Rattle.dcv_sets.specs.Rows.{rows_of, IsRowOf}
use Rattle.dcv_sets.proofs.bit_rows.push_bit_rows.Given as goal

-- the rows of the states so far were added
abbrev pub invariant-loop-state : goal.invariant-loop-state
invariant-loop-state g l = record {
  added : l.to ≡ l.initial.to ++ rows_of l.place (g.T.Table.row_at l.table) (states_below (has_state l.words) l.state);
  rows : All (λ state. IsRowOf (g.T.Table.automaton l.table) (g.T.Table.slots l.table) (g.T.Table.arena l.table) state (g.T.Table.row_at l.table state)) (states_below (has_state l.words) l.state);
}
