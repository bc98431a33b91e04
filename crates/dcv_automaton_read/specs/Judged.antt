-- How words are judged in turn, by their numbers.
--     first_false at keeps            the number of the first that is false, where the first has this number
--     first_word at words             the number of the first word that breaks a rule
--     IsJudged found next answer      the answer is the word that was found, or the number of the word after all of them
--     IsJudgedWhole found answer      the answer is the word that was found, or there is none
--     AreTrue keeps                   each is true
use Rattle.std.specs.Prelude.{◌≡◌, ℕ, ◌+◌, Bool, true, if◌then◌else◌, List, [], ◌∷◌, Option, None, Some, Result, Ok, Err}
use Rattle.dcv_automaton_read.specs.declared.faults.Stop.{Stop}
use Rattle.dcv_automaton_read.specs.declared.faults.Stop.TheVariants.{Word, OutOfMemory}

abbrev pub first_false : ℕ → List Bool → Option ℕ
first_false at [] = None
first_false at (kept ∷ keeps) = if kept then first_false (at + 1) keeps else Some at

abbrev pub first_word : ℕ → List (List ℕ × Bool) → Option ℕ
first_word at [] = None
first_word at (word ∷ words) = if word.1 then first_word (at + 1) words else Some at

-- where memory ran out, nothing is said
abbrev pub IsJudged : Option ℕ → ℕ → Result ℕ Stop → Type 0
IsJudged found next (Ok number) = (found ≡ None) × (number ≡ next)
IsJudged found next (Err (Word number)) = found ≡ Some number
IsJudged found next (Err OutOfMemory) = Unit {0}

abbrev pub AreTrue : List Bool → Type 0
AreTrue [] = Unit {0}
AreTrue (kept ∷ keeps) = (kept ≡ true) × AreTrue keeps

abbrev pub IsJudgedWhole : {Whole : Type 0} → Option ℕ → Result Whole Stop → Type 0
IsJudgedWhole found (Ok whole) = found ≡ None
IsJudgedWhole found (Err (Word number)) = found ≡ Some number
IsJudgedWhole found (Err OutOfMemory) = Unit {0}
