use Rattle.std.proofs.Common.{◌≡◌, length, map, take}
use Rattle.std.specs.List.{All}
use Rattle.dcv_arena.specs.Arena.{IsArena, table_of}
use Rattle.dcv_tables.specs.Below.{IsBelow}
use Rattle.dcv_tables.specs.declared.states.State.{State}
use Rattle.dcv_tables.proofs.states.raw_of.Given as goal

abbrev pub invariant-loop-state : goal.invariant-loop-state
invariant-loop-state l = record {
  arena : IsArena l.arena;
  slots : l.arena.slots ≡ l.slots;
  rows : All (IsBelow l.arena l.bound 0) l.rows.items;
  count : length l.rows.items ≡ l.state-index;
  flag_count : length l.accepting.items ≡ l.state-index;
  tables : map (table_of l.arena) l.rows.items ≡ map (λ (state : State). state.row.items) (take l.state-index l.states);
  flags : l.accepting.items ≡ map (λ (state : State). state.accepts) (take l.state-index l.states);
}
