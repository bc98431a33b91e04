-- The sets of the atoms of the logic. A proposition is a test of a letter.
--     constant truth           each behaviour, or none
--     point P                  one instant, where P holds
--     run P                    more than one instant, and P at each but the last
--     every P                  P at each instant
--     unit P                   two instants, and P at the first
--     slen meets               the number of steps, which is one less than that of instants, meets the test
--     scount P meets           the number of instants with P meets the test
--     sdur P meets             the number of instants but the last with P meets the test
--     SettlesAbove n meets     the test does not tell numbers above n apart
use Rattle.std.specs.Prelude.{◌≡◌, ℕ, suc, ◌<◌, Bool, false, List, [], ◌∷◌, length}
use Rattle.std.specs.List.{list_all, count_by}
use Rattle.dcv_word.specs.Behaviour.{Word}
use Rattle.dcv_language.specs.Language.{Language}

-- the letters of a word at all its instants but the last
abbrev pub all_but_last : Word → Word
all_but_last [] = []
all_but_last (letter ∷ []) = []
all_but_last (letter ∷ other ∷ letters) = letter ∷ all_but_last (other ∷ letters)

abbrev pub constant : Bool → Language
constant truth = λ word. truth

abbrev pub point : (List Bool → Bool) → Language
point P [] = false
point P (letter ∷ []) = P letter
point P (letter ∷ other ∷ letters) = false

abbrev pub run : (List Bool → Bool) → Language
run P [] = false
run P (letter ∷ []) = false
run P (letter ∷ other ∷ letters) = list_all P (all_but_last (letter ∷ other ∷ letters))

abbrev pub every : (List Bool → Bool) → Language
every P word = list_all P word

abbrev pub unit : (List Bool → Bool) → Language
unit P [] = false
unit P (letter ∷ []) = false
unit P (letter ∷ other ∷ []) = P letter
unit P (letter ∷ other ∷ third ∷ letters) = false

abbrev pub slen : (ℕ → Bool) → Language
slen meets word = meets (length (all_but_last word))

abbrev pub scount : (List Bool → Bool) → (ℕ → Bool) → Language
scount P meets word = meets (count_by P word)

abbrev pub sdur : (List Bool → Bool) → (ℕ → Bool) → Language
sdur P meets word = meets (count_by P (all_but_last word))

abbrev pub SettlesAbove : ℕ → (ℕ → Bool) → Type 0
SettlesAbove n meets = (number : ℕ) → n < number → meets number ≡ meets (suc n)
