-- What contracts see of a shelf: canonical tables by their numbers.
--     ShelfTable                            a table with the width of its letters
--     table_of_auto auto                    that of a canonical automaton
--     nodes_of_table one                    how many nodes its rows have together, each counted once
--     IsCanonicalTable one alone            it is canonical for what it accepts, and this truth says whether its start stands alone
--     ShelfValue                            a shelf: its width, the room for nodes, and its tables, each at its number
--     HaveOneNumberEach tables              no table has two numbers
--     KeepsNumbers old new                  each number means what it meant
--     HasNumber old one new number          the table has this number, and no other table has come
--     IsComplement one turned               the canonical table of the words that the one does not accept
--     HasComplement old one new number      the complement of the table has this number, and no other table has come
use Rattle.std.specs.Prelude.{◌≡◌, ◌⊎◌, ℕ, Bool, List, [], ◌∷◌, ◌++◌, length, map, Some, slice_get}
use Rattle.dcv_word.specs.Behaviour.{Word}
use Rattle.dcv_arena.specs.Diagram.{node_count}
use Rattle.dcv_language.specs.Table.{TableState, Table, table_accepts}
use Rattle.dcv_language.specs.Canonical.{IsCanonical}
use Rattle.dcv_language.specs.Complement.{stands_alone}
use Rattle.dcv_language.specs.Language.{outside}
use Rattle.dcv_dfa.specs.Raw.{RawValue}
use Rattle.dcv_dfa.specs.Auto.{table_of_states}

pub record ShelfTable : Type 0 where
  pub slots : ℕ
  pub table : Table

-- wherever its rows are
abbrev pub table_of_auto : RawValue → ShelfTable
table_of_auto auto = record { slots = auto.arena.slots; table = table_of_states auto }

abbrev pub nodes_of_table : ShelfTable → ℕ
nodes_of_table one = node_count one.slots (map (λ (state : TableState). state.row) one.table)

pub record IsCanonicalTable (one : ShelfTable) (alone : Bool) : Type 0 where
  pub access : List Word
  pub canonical : IsCanonical one.slots (table_accepts one.table) one.table access
  pub alone_is : alone ≡ stands_alone access

-- ---- numbers

pub record ShelfValue : Type 0 where
  pub slots : ℕ
  pub room : ℕ
  pub tables : List ShelfTable

-- so two numbers are equal exactly where their tables, with the widths, are
abbrev pub HaveOneNumberEach : List ShelfTable → Type 0
HaveOneNumberEach tables = (first second : ℕ) (one : ShelfTable) → slice_get tables first ≡ Some one → slice_get tables second ≡ Some one → first ≡ second

abbrev pub KeepsNumbers : List ShelfTable → List ShelfTable → Type 0
KeepsNumbers old new = (number : ℕ) (one : ShelfTable) → slice_get old number ≡ Some one → slice_get new number ≡ Some one

pub record HasNumber (old : List ShelfTable) (one : ShelfTable) (new : List ShelfTable) (number : ℕ) : Type 0 where
  pub there : slice_get new number ≡ Some one
  -- the tables are those that there were, or this one has come after them
  pub no_other : (new ≡ old) ⊎ (new ≡ old ++ one ∷ [])

-- ---- the complement

pub record IsComplement (one turned : ShelfTable) : Type 0 where
  pub slots : turned.slots ≡ one.slots
  pub access : List Word
  pub canonical : IsCanonical one.slots (outside (table_accepts one.table)) turned.table access
  -- it needs what the other does of a budget
  pub states : length turned.table ≡ length one.table
  pub nodes : nodes_of_table turned ≡ nodes_of_table one

pub record HasComplement (old : List ShelfTable) (one : ShelfTable) (new : List ShelfTable) (number : ℕ) : Type 0 where
  pub turned : ShelfTable
  pub complement : IsComplement one turned
  pub numbered : HasNumber old turned new number
