-- Raw automata: each state has a row, which is a function from letters to states in one arena, and a flag.
--     RawValue                  what contracts see of a `Raw`
--     IsRaw raw                 what is true of every one
--     row_of, is_accepting      the row of a state, and whether it accepts
--     next_in                   the state to which a letter leads
--     automaton_of, raw_accepts what it stands for, and the words that are accepted
use Rattle.std.specs.Prelude.{◌≡◌, ℕ, ◌^◌, ◌<◌, Bool, false, List, length, slice_index_or}
use Rattle.std.specs.List.{All}
use Rattle.dcv_arena.specs.Arena.{ArenaValue, IsArena, IsRef, value_of}
use Rattle.dcv_arena.specs.declared.nodes.Ref.{Ref}
use Rattle.dcv_arena.specs.declared.nodes.Ref.TheVariants.{Leaf}
use Rattle.dcv_language.specs.Language.{Language}
use Rattle.dcv_language.specs.Automaton.{Automaton, accepts}

-- the state with number n has the row and the flag at place n
pub record RawValue : Type 0 where
  pub arena : ArenaValue
  pub rows : List Ref
  pub accepting : List Bool
  pub start : ℕ

abbrev pub raw_value : ArenaValue → List Ref → List Bool → ℕ → RawValue
raw_value arena rows accepting start = record { arena = arena; rows = rows; accepting = accepting; start = start }

-- at each letter the row has the number of a state
abbrev pub LeadsBelow : ArenaValue → ℕ → Ref → Type 0
LeadsBelow arena states row = (letter : List Bool) → length letter ≡ arena.slots → value_of arena row letter < states

pub record IsRaw (raw : RawValue) : Type 0 where
  pub arena : IsArena raw.arena
  pub rows : All (IsRef raw.arena) raw.rows
  pub flags : length raw.accepting ≡ length raw.rows
  pub start : raw.start < length raw.rows
  pub numbers : All (LeadsBelow raw.arena (length raw.rows)) raw.rows
  pub states : length raw.rows < 2 ^ 32

-- a state that is none has a row that leads to state 0 alone
abbrev pub row_of : RawValue → ℕ → Ref
row_of raw state = slice_index_or raw.rows state (Leaf 0)

abbrev pub is_accepting : RawValue → ℕ → Bool
is_accepting raw state = slice_index_or raw.accepting state false

abbrev pub next_in : RawValue → ℕ → List Bool → ℕ
next_in raw state letter = value_of raw.arena (row_of raw state) letter

abbrev pub automaton_of : RawValue → Automaton ℕ
automaton_of raw = record { start = raw.start; next = next_in raw; accepting = is_accepting raw }

abbrev pub raw_accepts : RawValue → Language
raw_accepts raw = accepts (automaton_of raw)
