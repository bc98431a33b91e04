-- The laws that `src/laws.rt` proves: of the table that a raw automaton's states make, of its complement, of access words, and of node lines.
use Rattle.std.specs.Prelude.{◌≡◌, ℕ, ◌<◌, Bool, List, length, slice_index_or}
use Rattle.std.specs.List.{All}
use Rattle.dcv_word.specs.Behaviour.{Word}
use Rattle.dcv_arena.specs.Arena.{ArenaValue, IsArena, IsRef, value_of}
use Rattle.dcv_arena.specs.declared.nodes.Ref.{Ref}
use Rattle.dcv_arena.specs.declared.nodes.Ref.TheVariants.{Leaf}
use Rattle.dcv_language.specs.Language.{HaveSameBehaviours}
use Rattle.dcv_language.specs.Automaton.{state_after}
use Rattle.dcv_language.specs.Table.{IsTable, leads_to, table_accepts, is_accepting as accepts_in_table, next_in as next_in_table}
use Rattle.dcv_language.specs.Complement.{stands_alone, complement}
use Rattle.dcv_dfa.specs.Raw.{RawValue, IsRaw, is_accepting, next_in, automaton_of, raw_accepts}
use Rattle.dcv_dfa.specs.Auto.{IsAuto, table_of_states, complement_of}
use Rattle.dcv_dfa.specs.NodeLines.{lines_of_rows, node_lines_of, state_at, states_at}
use Rattle.dcv_language.specs.declared.child.Child.TheVariants.{State}

-- ---- the table of the states

abbrev pub TableHasTheStates : Type 0
TableHasTheStates = (raw : RawValue) → length (table_of_states raw) ≡ length raw.rows

abbrev pub TableHasTheFlags : Type 0
TableHasTheFlags = (raw : RawValue) (state : ℕ) → state < length raw.rows
    → accepts_in_table (table_of_states raw) state ≡ is_accepting raw state

abbrev pub TableHasTheSteps : Type 0
TableHasTheSteps = (raw : RawValue) (state : ℕ) (letter : List Bool) → state < length raw.rows → length letter ≡ raw.arena.slots
    → next_in_table (table_of_states raw) state letter ≡ next_in raw state letter

abbrev pub StatesMakeATable : Type 0
StatesMakeATable = (raw : RawValue) → IsRaw raw → IsTable raw.arena.slots (table_of_states raw)

-- ---- what the table stands for

-- a word leads to one state in both, the empty word too
abbrev pub TableLeadsAsTheStates : Type 0
TableLeadsAsTheStates = (raw : RawValue) (word : Word) → IsRaw raw → raw.start ≡ 0 → All (λ letter. length letter ≡ raw.arena.slots) word
    → leads_to (table_of_states raw) word ≡ state_after (automaton_of raw) word

abbrev pub TableAcceptsAsTheStates : Type 0
TableAcceptsAsTheStates = (raw : RawValue) → IsRaw raw → raw.start ≡ 0
    → HaveSameBehaviours raw.arena.slots (table_accepts (table_of_states raw)) (raw_accepts raw)

-- ---- complements and access words

-- the table of the complement is the complement of the table
abbrev pub TableOfComplement : Type 0
TableOfComplement = (raw : RawValue) (access : List Word) → length raw.accepting ≡ length raw.rows
    → table_of_states (complement_of (stands_alone access) raw) ≡ complement access (table_of_states raw)

-- a canonical automaton has one list of access words
abbrev pub OneListOfAccessWords : Type 0
OneListOfAccessWords = (raw : RawValue) (one other : IsAuto raw) → one.access ≡ other.access

-- ---- node lines

-- rows of the same numbers have the same lines, in whatever order their arenas have the nodes
abbrev pub SameRowsHaveOneListOfLines : Type 0
SameRowsHaveOneListOfLines = (first second : ArenaValue) (rows others : List Ref) → IsArena first → IsArena second
    → All (IsRef first) rows → All (IsRef second) others → first.slots ≡ second.slots → length rows ≡ length others
    → ((place : ℕ) (letter : List Bool) → place < length rows → length letter ≡ first.slots
    → value_of first (slice_index_or rows place (Leaf 0)) letter ≡ value_of second (slice_index_or others place (Leaf 0)) letter)
    → lines_of_rows first rows ≡ lines_of_rows second others

-- a row stands, at each letter, for the number that it has there
abbrev pub LinesHaveTheNumbersOfTheRows : Type 0
LinesHaveTheNumbersOfTheRows = (arena : ArenaValue) (rows : List Ref) (place : ℕ) (letter : List Bool) → IsArena arena → All (IsRef arena) rows → place < length rows
    → let all = lines_of_rows arena rows in
    state_at (states_at letter all.lines) (slice_index_or all.rows place (State 0)) ≡ value_of arena (slice_index_or rows place (Leaf 0)) letter

-- automata with one table have the same lines
abbrev pub OneTableHasOneListOfLines : Type 0
OneTableHasOneListOfLines = (one other : RawValue) → IsRaw one → IsRaw other → one.arena.slots ≡ other.arena.slots
    → table_of_states one ≡ table_of_states other → node_lines_of one ≡ node_lines_of other

-- a state's row stands, at each letter, for the state to which the letter leads
abbrev pub LinesLeadAsTheRows : Type 0
LinesLeadAsTheRows = (raw : RawValue) (state : ℕ) (letter : List Bool) → IsRaw raw → state < length raw.rows
    → let all = node_lines_of raw in state_at (states_at letter all.lines) (slice_index_or all.rows state (State 0)) ≡ next_in raw state letter
