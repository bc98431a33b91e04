-- What stands at a place of a list that is one longer.
use Rattle.std.proofs.Common.{◌≡◌, ℕ, zero, suc, List, [], ◌∷◌, ◌++◌, length, Some, slice_get, ◌⊎◌, inl, inr, refl, ap}
use Rattle.std.proofs.lemmas.Option.{same_Some}

pub pushed_cases : {X : Type 0} (xs : List X) (x : X) (place : ℕ) (y : X) → slice_get (xs ++ x ∷ []) place ≡ Some y → (slice_get xs place ≡ Some y) ⊎ ((place ≡ length xs) × (x ≡ y))
pushed_cases [] x zero y at = inr (refl, same_Some x y at)
pushed_cases [] x (suc place) y at = absurd cc
pushed_cases (z ∷ xs) x zero y at = inl at
pushed_cases (z ∷ xs) x (suc place) y at = elim (pushed_cases xs x place y at) [
  | inl before ↦ inl before
  | inr last ↦ inr (ap suc last.0, last.1)
]
