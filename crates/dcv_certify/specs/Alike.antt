-- For the proofs: which states no suffix so far tells apart. An entry is a state, or, after the last state, the start once more with the other
-- flag, where its access word is empty: the empty suffix says nothing of it.
--     bit table entry suffix           whether the suffix is accepted from the entry
--     entries_of file                  how many entries there are
--     AreAlike table suffixes one other    each suffix says the same of two entries
--     IsLeastAlike ..                  the least entry that is alike to this one
--     AreLeastAlike table suffixes alike   these are the least entries, for each entry
use Rattle.std.specs.Prelude.{◌≡◌, ℕ, ◌+◌, ◌<◌, ◌≤◌, Bool, true, false, not, nat_lt, if◌then◌else◌, List, [], ◌∷◌, length, slice_index_or}
use Rattle.std.specs.List.{All}
use Rattle.dcv_word.specs.Behaviour.{Word}
use Rattle.dcv_language.specs.Automaton.{accepts_from}
use Rattle.dcv_language.specs.Table.{Table, is_accepting, automaton_of}
use Rattle.dcv_automaton_text.specs.File.{Access, EmptyAccess, StartAccess, AfterAccess, AutomatonFile}

-- from the start, with its flag turned
abbrev pub turned_bit : Table → Word → Bool
turned_bit table [] = not (is_accepting table 0)
turned_bit table (letter ∷ letters) = accepts_from (automaton_of table) 0 (letter ∷ letters)

abbrev pub bit : Table → ℕ → Word → Bool
bit table entry suffix = if nat_lt entry (length table) then accepts_from (automaton_of table) entry suffix else turned_bit table suffix

abbrev pub is_empty_access : Access → Bool
is_empty_access EmptyAccess = true
is_empty_access (StartAccess letter) = false
is_empty_access (AfterAccess state letter) = false

-- the access word of the start is spelled as the empty word
abbrev pub has_no_letters : AutomatonFile → Bool
has_no_letters file = is_empty_access (slice_index_or file.access_lines 0 (record { number = 0; access = EmptyAccess })).access

abbrev pub entries_of : AutomatonFile → ℕ
entries_of file = file.states + (if has_no_letters file then 1 else 0)

abbrev pub AreAlike : Table → List Word → ℕ → ℕ → Type 0
AreAlike table suffixes one other = All (λ suffix. bit table one suffix ≡ bit table other suffix) suffixes

pub record IsLeastAlike (table : Table) (suffixes : List Word) (entry least : ℕ) : Type 0 where
  pub no_later : least ≤ entry
  pub alike : AreAlike table suffixes least entry
  pub none_before : (other : ℕ) → other < least → ¬ AreAlike table suffixes other entry

pub record AreLeastAlike (table : Table) (suffixes : List Word) (alike : List ℕ) : Type 0 where
  pub each : (entry : ℕ) → entry < length alike → IsLeastAlike table suffixes entry (slice_index_or alike entry 0)
