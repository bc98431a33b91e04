-- What stands in a list of lists where one of them is written.
use Rattle.std.proofs.Common.{◌≡◌, ◌≢◌, ℕ, zero, suc, ◌<◌, List, [], ◌∷◌, length, set, Vec, Option, Some, slice_get, Result, Ok, Err, OnErr, inl, inr, refl, sym, ap, ◌∙◌, arith}
use Rattle.std.proofs.lemmas.Bool.{cases_eq}
use Rattle.std.specs.Option.{option_map_or}
use Rattle.dcv_refinement.specs.NumberLists.{list_at}

pub get_set_same : {X : Type 0} (xs : List X) (i : ℕ) (v : X) → i < length xs → slice_get (set xs i v) i ≡ Some v
get_set_same [] i v within = absurd (omega arith)
get_set_same (x ∷ xs) zero v within = refl
get_set_same (x ∷ xs) (suc i) v within = get_set_same xs i v (omega arith)

pub get_set_other : {X : Type 0} (xs : List X) (i j : ℕ) (v : X) → j ≢ i → slice_get (set xs i v) j ≡ slice_get xs j
get_set_other [] i j v other = refl
get_set_other (x ∷ xs) zero zero v other = absurd (other refl)
get_set_other (x ∷ xs) zero (suc j) v other = refl
get_set_other (x ∷ xs) (suc i) zero v other = refl
get_set_other (x ∷ xs) (suc i) (suc j) v other = get_set_other xs i j v (λ e. other (ap suc e))

module _ {Z : Type 0} (old : List (Vec ℕ Z)) (place number : ℕ) (vector : Vec ℕ Z) (within : place < length old) where
  pub list_there : list_at (set old place vector) place ≡ vector.items
  list_there = ap (λ (found : Option (Vec ℕ Z)). option_map_or (λ one. one.items) found []) (get_set_same old place vector within)

  pub list_else : (at : ℕ) → at ≢ place → list_at (set old place vector) at ≡ list_at old at
  list_else at other = ap (λ (found : Option (Vec ℕ Z)). option_map_or (λ one. one.items) found []) (get_set_other old place at vector other)

  -- a list that is written with what it had
  pub list_as_it_was : vector.items ≡ list_at old place → (at : ℕ) → list_at (set old place vector) at ≡ list_at old at
  list_as_it_was is at = elim (cases_eq at place) [
    | inl here ↦ ap (list_at (set old place vector)) here ∙ list_there ∙ is ∙ ap (list_at old) (sym here)
    | inr other ↦ list_else at other
  ]

-- what holds anyhow holds at a refusal
pub on_err_anyhow : {X E : Type 0} (result : Result X E) (P : Type 0) → P → OnErr result P
on_err_anyhow (Ok x) P p = tt
on_err_anyhow (Err e) P p = p

pub on_err_weaker : {X E : Type 0} (result : Result X E) (P Q : Type 0) → (P → Q) → OnErr result P → OnErr result Q
on_err_weaker (Ok x) P Q f p = tt
on_err_weaker (Err e) P Q f p = f p
