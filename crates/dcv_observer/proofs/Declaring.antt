-- A name that is declared: whether it was new, and that it is not among names in which it has no place.
use Rattle.std.proofs.Common.{◌≡◌, ℕ, ◌<◌, Bool, true, false, not, cond, ◌||◌, ◌⊎◌, ltb, List, [], ◌∷◌, ◌++◌, length, Some, None}
use Rattle.std.proofs.Common.{refl, sym, ap, ◌∙◌, arith, inl, inr}
use Rattle.std.specs.List.{position, position_or_len, list_any}
use Rattle.std.proofs.lemmas.Bool.{cases_Bool, or_cases, both_ways, false≢true, false_from_ne_true, not-true, lt-ltb}
use Rattle.dcv_observer.specs.Conditions.{Names}
use Rattle.dcv_observer.specs.Naming.{is_among}

-- whether a name was new, and what is declared then
pub was_new : (b : Bool) (names more : Names) (name : List ℕ) → b ≡ true → b ≡ not (is_among names name) → more ≡ cond b (names ++ name ∷ []) names
    → (is_among names name ≡ false) × (more ≡ names ++ name ∷ [])
was_new b names more name new is then =
    (not-true (is_among names name) (sym is ∙ new), then ∙ ap (λ (d : Bool). cond d (names ++ name ∷ []) names) new)

place_within : (p : List ℕ → Bool) (xs : Names) → list_any p xs ≡ true → position_or_len p xs < length xs
place_within p [] some = absurd (false≢true some)
place_within p (x ∷ xs) some =
    elim (cases_Bool (p x)) [
      | inl here ↦ rw here (omega arith)
      | inr other ↦ let later = place_within p xs (behind other (or_cases (p x) (list_any p xs) some)) in rw other (omega arith)
    ]
  where
    behind : p x ≡ false → (p x ≡ true) ⊎ (list_any p xs ≡ true) → list_any p xs ≡ true
    behind other (inl here) = absurd (both_ways (p x) other here)
    behind other (inr more) = more

pub not_there : (p : List ℕ → Bool) (xs : Names) → position p xs ≡ None → list_any p xs ≡ false
not_there p xs none =
    false_from_ne_true (list_any p xs) (λ some.
    let place = position_or_len p xs in
    let within : ltb place (length xs) ≡ true = lt-ltb place (length xs) (place_within p xs some) in
    let never : Some place ≡ None = sym (ap (λ (b : Bool). cond b (Some place) None) within) ∙ none in
    cc)

pub or_turned : (e b l : Bool) → (e || (b || l)) ≡ ((b || e) || l)
or_turned true true l = refl
or_turned true false l = refl
or_turned false true l = refl
or_turned false false l = refl
