use Rattle.std.proofs.Common.{◌≡◌, ◌++◌}
use Rattle.std.specs.List.{All}
use Rattle.dcv_sets.specs.Rows.{rows_of, states_below, IsRowOf}
use Rattle.dcv_sets.proofs.rows.push_all_rows.Given as goal

-- the rows of the states below this one were added
abbrev pub invariant-loop-state : goal.invariant-loop-state
invariant-loop-state g l = record {
  added : l.to ≡ l.initial.to ++ rows_of l.place (g.T.Table.row_at l.table) (states_below l.state);
  rows : All (λ state. IsRowOf (g.T.Table.automaton l.table) (g.T.Table.slots l.table) (g.T.Table.arena l.table) state (g.T.Table.row_at l.table state)) (states_below l.state);
}
