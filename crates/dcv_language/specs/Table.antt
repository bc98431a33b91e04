-- Table automata: automata as plain data, a state being its number, and state 0 the start.
--     TableState                  whether a state accepts, and its row: the number of the next state for each letter, in the letters' order
--     Table                       the states, state 0 first
--     IsTable k                   rows of 2 ^ k numbers, each of a state
--     row_of, is_accepting        the row of a state, and whether it accepts
--     next_in                     the state to which a letter leads
--     automaton_of                what the table stands for
--     leads_to, table_accepts     the state to which a word leads from the start, and the words that are accepted
--     AcceptsExactly k table L    of the behaviours over k variables exactly those of L are accepted
use Rattle.std.specs.Prelude.{◌≡◌, ℕ, ◌^◌, ◌<◌, Bool, false, List, [], length, slice_index_or}
use Rattle.std.specs.List.{All}
use Rattle.dcv_word.specs.Behaviour.{Word}
use Rattle.dcv_word.specs.Letter.{bits_of}
use Rattle.dcv_language.specs.Language.{Language, HaveSameBehaviours}
use Rattle.dcv_language.specs.Automaton.{Automaton, state_after, accepts}

pub record TableState : Type 0 where
  pub accepting : Bool
  pub row : List ℕ

abbrev pub Table : Type 0
Table = List TableState

pub record IsTable (k : ℕ) (table : Table) : Type 0 where
  pub nonempty : 0 < length table
  pub rows : All (λ (state : TableState). length state.row ≡ 2 ^ k) table
  pub numbers : All (λ (state : TableState). All (λ number. number < length table) state.row) table

-- a state with a number that no state has
abbrev pub no_state : TableState
no_state = record { accepting = false; row = [] }

abbrev pub row_of : Table → ℕ → List ℕ
row_of table state = (slice_index_or table state no_state).row

abbrev pub is_accepting : Table → ℕ → Bool
is_accepting table state = (slice_index_or table state no_state).accepting

abbrev pub next_in : Table → ℕ → List Bool → ℕ
next_in table state letter = slice_index_or (row_of table state) (bits_of letter) 0

abbrev pub automaton_of : Table → Automaton ℕ
automaton_of table = record { start = 0; next = next_in table; accepting = is_accepting table }

abbrev pub leads_to : Table → Word → ℕ
leads_to table = state_after (automaton_of table)

abbrev pub table_accepts : Table → Language
table_accepts table = accepts (automaton_of table)

abbrev pub AcceptsExactly : ℕ → Table → Language → Type 0
AcceptsExactly k table L = HaveSameBehaviours k (table_accepts table) L
