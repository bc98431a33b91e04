-- Canonical automata: raw automata that start in state 0, and whose table is canonical for what they accept.
--     table_of_states raw     the automaton as a table: for each state its flag, and the numbers of its row in the letters' order
--     count_of_nodes raw      how many nodes the rows have together, each counted once
--     IsAuto raw              what is true of every `Auto`, with the access words of its states
--     IsAutoWith raw start_alone    and this truth says whether its start stands alone
--     complement_of alone raw the raw automaton with turned flags, but for a start that stands alone
use Rattle.std.specs.Prelude.{◌≡◌, ℕ, Bool, not, if◌then◌else◌, List, [], ◌∷◌, length, map}
use Rattle.std.specs.List.{range_with_len}
use Rattle.dcv_word.specs.Behaviour.{Word}
use Rattle.dcv_arena.specs.Arena.{table_of, HasOnlyNodesOf}
use Rattle.dcv_arena.specs.Diagram.{node_count}
use Rattle.dcv_language.specs.Table.{TableState, Table}
use Rattle.dcv_language.specs.Canonical.{IsCanonical}
use Rattle.dcv_language.specs.Complement.{stands_alone}
use Rattle.dcv_dfa.specs.Raw.{RawValue, raw_value, row_of, is_accepting, raw_accepts}

abbrev pub state_of : RawValue → ℕ → TableState
state_of raw state = record { accepting = is_accepting raw state; row = table_of raw.arena (row_of raw state) }

unfoldable pub table_of_states : RawValue → Table
table_of_states raw = map (state_of raw) (range_with_len 0 (length raw.rows))

abbrev pub count_of_nodes : RawValue → ℕ
count_of_nodes raw = node_count raw.arena.slots (map (table_of raw.arena) raw.rows)

pub record IsAuto (raw : RawValue) : Type 0 where
  pub start : raw.start ≡ 0
  -- for each state the least behaviour that leads to it, and for a start that none leads to the empty word
  pub access : List Word
  pub canonical : IsCanonical raw.arena.slots (raw_accepts raw) (table_of_states raw) access
  pub nodes : HasOnlyNodesOf raw.arena raw.rows

pub record IsAutoWith (raw : RawValue) (start_alone : Bool) : Type 0 where
  pub auto : IsAuto raw
  pub alone : start_alone ≡ stands_alone auto.access

abbrev pub turned : Bool → List Bool → List Bool
turned alone [] = []
turned alone (start ∷ others) = (if alone then start else not start) ∷ map not others

abbrev pub complement_of : Bool → RawValue → RawValue
complement_of alone raw = raw_value raw.arena raw.rows (turned alone raw.accepting) raw.start
