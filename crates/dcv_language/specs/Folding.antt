-- What makes a table of numbered raw states canonical: the list that a minimiser has to establish.
-- A raw automaton has states that words reach, and each of these has the number of its class, which is a state of the table.
--     AreApartFrom            some word, maybe empty, is accepted from exactly one of two raw states
--     HasOtherRow             a state of the table has another row than state 0
--     StartIsAlone            no behaviour enters the start, and no class has its row
--     StartIsShared           the start is the first class that has its row
--     StartIsAloneOrShared    the one or the other, by the access word of the start
--     IsFolding               the table has the classes' flags and steps, by least words, and classes are apart
use Rattle.std.specs.Prelude.{◌≡◌, ◌≢◌, ℕ, ◌<◌, Bool, false, List, [], ◌∷◌, ◌++◌, length, drop, IsTrue}
use Rattle.std.specs.List.{All, AllPairs}
use Rattle.std.specs.declared.cmp.Ordering.TheVariants.{Less}
use Rattle.dcv_word.specs.Word.{shortlex_order}
use Rattle.dcv_word.specs.Behaviour.{Word, IsBehaviour}
use Rattle.dcv_language.specs.Automaton.{Automaton, accepts_from}
use Rattle.dcv_language.specs.Least.{IsNoLater}
use Rattle.dcv_language.specs.Table.{Table, IsTable, row_of, is_accepting, next_in, leads_to}
use Rattle.dcv_language.specs.Canonical.{access_word}

pub record AreApartFrom (k : ℕ) (raw : Automaton ℕ) (first second : ℕ) : Type 0 where
  pub suffix : Word
  pub widths : All (λ letter. length letter ≡ k) suffix
  pub differ : accepts_from raw first suffix ≢ accepts_from raw second suffix

abbrev pub HasOtherRow : Table → ℕ → Type 0
HasOtherRow table state = row_of table state ≢ row_of table 0

pub record StartIsAlone (table : Table) (reached : ℕ → Bool) (number : ℕ → ℕ) : Type 0 where
  pub never_entered : (state : ℕ) → IsTrue (reached state) → number state ≢ 0
  pub rejects : is_accepting table 0 ≡ false
  pub other_rows : (state : ℕ) → 0 < state → state < length table → HasOtherRow table state

pub record StartIsShared (k : ℕ) (table : Table) (access : List Word) : Type 0 where
  pub behaves : IsBehaviour k (access_word access 0)
  pub leads : leads_to table (access_word access 0) ≡ 0
  pub other_rows : (state : ℕ) → 0 < state → state < length table
      → shortlex_order (access_word access state) (access_word access 0) ≡ Less → HasOtherRow table state

-- how the start stands, by its access word
abbrev pub StartIsAloneOrShared : ℕ → Table → List Word → (ℕ → Bool) → (ℕ → ℕ) → Word → Type 0
StartIsAloneOrShared k table access reached number [] = StartIsAlone table reached number
StartIsAloneOrShared k table access reached number (letter ∷ letters) = StartIsShared k table access

-- which raw states behaviours reach, and the number of each
pub record IsFolding (k : ℕ) (raw : Automaton ℕ) (reached : ℕ → Bool) (number : ℕ → ℕ) (table : Table) (access : List Word) : Type 0 where
  pub states : IsTable k table
  pub words : length access ≡ length table
  -- the states that are reached
  pub begins : (letter : List Bool) → length letter ≡ k → IsTrue (reached (raw.next raw.start letter))
  pub goes_on : (state : ℕ) (letter : List Bool) → IsTrue (reached state) → length letter ≡ k → IsTrue (reached (raw.next state letter))
  -- numbers respect flags and steps
  pub flags : (state : ℕ) → IsTrue (reached state) → is_accepting table (number state) ≡ raw.accepting state
  pub steps : (state : ℕ) (letter : List Bool) → IsTrue (reached state) → length letter ≡ k
      → next_in table (number state) letter ≡ number (raw.next state letter)
  pub start_steps : (letter : List Bool) → length letter ≡ k → next_in table 0 letter ≡ number (raw.next raw.start letter)
  -- differing numbers are apart
  pub apart : (first second : ℕ) → IsTrue (reached first) → IsTrue (reached second) → number first ≢ number second → AreApartFrom k raw first second
  -- classes are numbered by least words, as a breadth-first search finds them
  pub behaves : (state : ℕ) → 0 < state → state < length table → IsBehaviour k (access_word access state)
  pub leads : (state : ℕ) → 0 < state → state < length table → leads_to table (access_word access state) ≡ state
  pub begins_early : (letter : List Bool) → length letter ≡ k → IsNoLater (access_word access (next_in table 0 letter)) (letter ∷ [])
  pub goes_on_early : (state : ℕ) (letter : List Bool) → 0 < state → state < length table → length letter ≡ k
      → IsNoLater (access_word access (next_in table state letter)) (access_word access state ++ letter ∷ [])
  pub in_order : AllPairs (λ first second. shortlex_order first second ≡ Less) (drop 1 access)
  -- the start is folded where it may be
  pub start : StartIsAloneOrShared k table access reached number (access_word access 0)
