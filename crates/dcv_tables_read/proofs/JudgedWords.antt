-- Words are judged in turn.
use Rattle.std.proofs.Common.{◌≡◌, ℕ, Bool, true, false, List, [], ◌∷◌, ◌++◌, length, None, Some, Result, Ok, Err, refl, ◌∙◌, arith}
use Rattle.std.specs.Prelude.{IsTrue}
use Rattle.std.specs.List.{list_all}
use Rattle.std.specs.Result.{IsErrAnd}
use Rattle.std.proofs.lemmas.Result.{err_from_is_err_and}
use Rattle.dcv_lexer.specs.Cuts.{Token}
use Rattle.dcv_observer.specs.Subsets.{first_broken}
use Rattle.dcv_tables_read.specs.Judged.{IsJudged, IsJudgedWhole}

-- ---- words after others

none_before : (words others : List Token) (keeps also : List Bool) → length words ≡ length keeps → first_broken words keeps ≡ None
    → first_broken (words ++ others) (keeps ++ also) ≡ first_broken others also
none_before [] others [] also many none = refl
none_before [] others (b ∷ keeps) also many none = absurd cc
none_before (word ∷ words) others [] also many none = absurd cc
none_before (word ∷ words) others (true ∷ keeps) also many none = none_before words others keeps also (omega (arith, many)) none
none_before (word ∷ words) others (false ∷ keeps) also many none = absurd cc

some_before : (words others : List Token) (keeps also : List Bool) (at : ℕ) → first_broken words keeps ≡ Some at
    → first_broken (words ++ others) (keeps ++ also) ≡ Some at
some_before [] others keeps also at some = absurd cc
some_before (word ∷ words) others [] also at some = absurd cc
some_before (word ∷ words) others (true ∷ keeps) also at some = some_before words others keeps also at some
some_before (word ∷ words) others (false ∷ keeps) also at some = some

module _ (words others : List Token) (keeps also : List Bool) where
  -- the first words keep their rules, and then the others are judged
  pub in_turn : (end : ℕ) (result : Result ℕ ℕ) → length words ≡ length keeps → first_broken words keeps ≡ None
      → IsJudged others also end result → IsJudged (words ++ others) (keeps ++ also) end result
  in_turn end (Ok at) many none then_it = (none_before words others keeps also many none ∙ then_it.0, then_it.1)
  in_turn end (Err at) many none then_it = none_before words others keeps also many none ∙ then_it

  pub stops : (next end at : ℕ) → IsJudged words keeps next (Err at) → IsJudged (words ++ others) (keeps ++ also) end (Err at)
  stops next end at some = some_before words others keeps also at some

  -- what a call returns that stops is handed on
  pub stopped : (next end at : ℕ) (result : Result ℕ ℕ) → IsErrAnd result (λ e. e ≡ at) → IsJudged words keeps next (Err at)
      → IsJudged (words ++ others) (keeps ++ also) end result
  stopped next end at result exits some =
      let p = err_from_is_err_and result exits in
      rw (p.1, p.2) (stops next end at some)

  pub stopped_later : (end at : ℕ) (result : Result ℕ ℕ) → length words ≡ length keeps → first_broken words keeps ≡ None → IsErrAnd result (λ e. e ≡ at)
      → first_broken others also ≡ Some at → IsJudged (words ++ others) (keeps ++ also) end result
  stopped_later end at result many none exits some =
      let p = err_from_is_err_and result exits in
      rw (p.1, p.2) (none_before words others keeps also many none ∙ some)

  -- the same of the last words
  pub whole_stopped : {Whole : Type 0} (at : ℕ) (result : Result Whole ℕ) → IsErrAnd result (λ e. e ≡ at) → first_broken words keeps ≡ Some at
      → IsJudgedWhole (words ++ others) (keeps ++ also) result
  whole_stopped {Whole} at result exits some =
      let p = err_from_is_err_and result exits in
      rw (p.1, p.2) (let here : IsJudgedWhole {Whole = Whole} (words ++ others) (keeps ++ also) (Err at) = some_before words others keeps also at some in here)

  pub whole_later : {Whole : Type 0} (result : Result Whole ℕ) → length words ≡ length keeps → first_broken words keeps ≡ None → IsJudgedWhole others also result
      → IsJudgedWhole (words ++ others) (keeps ++ also) result
  whole_later (Ok whole) many none later = none_before words others keeps also many none ∙ later
  whole_later (Err at) many none later = none_before words others keeps also many none ∙ later

-- ---- where all keep their rules

pub kept_is_unbroken : (words : List Token) (keeps : List Bool) → IsTrue (list_all (λ keeps. keeps) keeps) → first_broken words keeps ≡ None
kept_is_unbroken [] keeps kept = refl
kept_is_unbroken (word ∷ words) [] kept = refl
kept_is_unbroken (word ∷ words) (true ∷ keeps) kept = kept_is_unbroken words keeps kept
kept_is_unbroken (word ∷ words) (false ∷ keeps) kept = absurd cc

pub unbroken_is_kept : (words : List Token) (keeps : List Bool) → length words ≡ length keeps → first_broken words keeps ≡ None → IsTrue (list_all (λ keeps. keeps) keeps)
unbroken_is_kept [] [] many none = refl
unbroken_is_kept [] (b ∷ keeps) many none = absurd (omega (arith, many))
unbroken_is_kept (word ∷ words) [] many none = refl
unbroken_is_kept (word ∷ words) (true ∷ keeps) many none = unbroken_is_kept words keeps (omega (arith, many)) none
unbroken_is_kept (word ∷ words) (false ∷ keeps) many none = absurd cc
