-- What a map has after an insertion: each entry was there, or has the new value under the key or one that is equal to it.
--     insert_cases    each entry after an insertion was there, or is the one that was put
use Rattle.std.proofs.Common.{◌≡◌, Bool, true, false, List, [], ◌∷◌, Contains, ◌⊎◌, inl, inr, refl, sym, ap, subst}
use Rattle.indexmap.specs.IndexMap.{insert_entry}
use Rattle.lru.proofs.Splits.{Contains-head, Contains-tail, Contains-cons, Contains-nil}

module _ {K V : Type 0} (same : K → K → Bool) (key : K) (value : V) where
  -- the pair has the value, under the key or under one that is equal to it
  abbrev pub IsPut : K × V → Type 0
  IsPut one = (one.1 ≡ value) × ((one.0 ≡ key) ⊎ (same key one.0 ≡ true))

  pub insert_cases : (entries : List (K × V)) (one : K × V) → Contains (insert_entry same entries key value) one → Contains entries one ⊎ IsPut one
  insert_cases [] one c = elim (Contains-cons (key, value) [] one c) [
    | inl is ↦ inr (sym (ap (λ e. e.1) is), inl (sym (ap (λ e. e.0) is)))
    | inr none ↦ absurd (Contains-nil one none)
  ]
  insert_cases (entry ∷ entries) one c = (elim (same key entry.0) as (λ test. same key entry.0 ≡ test → Contains (entry ∷ entries) one ⊎ IsPut one) [
    | true ↦ λ t. elim (Contains-cons (entry.0, value) entries one (rw t at c)) [
      | inl is ↦ inr (sym (ap (λ e. e.1) is), inr (subst (λ k. same key k ≡ true) (ap (λ e. e.0) is) t))
      | inr more ↦ inl (Contains-tail entry entries one more)
    ]
    | false ↦ λ t. elim (Contains-cons entry (insert_entry same entries key value) one (rw t at c)) [
      | inl is ↦ inl (subst (Contains (entry ∷ entries)) is (Contains-head entry entries))
      | inr more ↦ elim (insert_cases entries one more) [
        | inl was ↦ inl (Contains-tail entry entries one was)
        | inr own ↦ inr own
      ]
    ]
  ]) refl
