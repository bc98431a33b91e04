-- Tables as tests write them: states with rows of numbers.
--     table_state state                 a written state as a state of a table
--     state_over slots arena accepting row number    the state of a table with this number, at the letters of so many slots
use Rattle.std.specs.Prelude.{ℕ, Bool, map}
use Rattle.dcv_word.specs.Letter.{letters_of_width}
use Rattle.dcv_arena.specs.Arena.{ArenaValue, value_of}
use Rattle.dcv_arena.specs.declared.nodes.Ref.{Ref}
use Rattle.dcv_language.specs.Table.{TableState}
use Rattle.dcv_tables.specs.declared.states.State.{State}

abbrev pub table_state : State → TableState
table_state state = record { accepting = state.accepts; row = state.row.items }

abbrev pub state_over : ℕ → ArenaValue → (ℕ → Bool) → (ℕ → Ref) → ℕ → TableState
state_over slots arena accepting row number = record {
  accepting = accepting number;
  row = map (value_of arena (row number)) (letters_of_width slots);
}
