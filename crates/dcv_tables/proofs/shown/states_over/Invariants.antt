use Rattle.std.proofs.Common.{◌≡◌, map}
use Rattle.std.specs.List.{range_with_len}
use Rattle.dcv_tables.specs.Tables.{table_state, state_over}
use Rattle.dcv_tables.proofs.shown.states_over.Given as goal

abbrev pub invariant-loop-number : goal.invariant-loop-number
invariant-loop-number g l =
    map table_state l.states.items ≡ map (state_over l.slots (g.T.Table.arena l.table) (g.T.Table.automaton l.table).accepting (g.T.Table.row_at l.table)) (range_with_len 0 l.number)
