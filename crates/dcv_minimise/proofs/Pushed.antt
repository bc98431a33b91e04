-- A number more at the end of a list, and a list that is written back.
use Rattle.std.proofs.Common.{◌≡◌, ℕ, ◌<◌, ◌+◌, List, [], ◌∷◌, ◌++◌, length, take, drop, Contains, inl, inr, sym, ap, subst, ◌∙◌, arith}
use Rattle.std.proofs.lemmas.Bool.{cases_lt}
use Rattle.std.proofs.lemmas.List.{append-nil, drop_all, take_all}
use Rattle.std.proofs.lemmas.List.Elements.{Contains-push, Contains-append_left}

-- all numbers below one more
pub each_more : (old new : List ℕ) (n : ℕ) → new ≡ old ++ n ∷ [] → ((k : ℕ) → k < n → Contains old k) → (k : ℕ) → k < n + 1 → Contains new k
each_more old new n is was k within = subst (λ list. Contains list k) (sym is) (elim (cases_lt k n) [
  | inl before ↦ Contains-append_left old (n ∷ []) k (was k before)
  | inr last ↦ subst (Contains (old ++ n ∷ [])) (let same : n ≡ k = omega arith in same) (Contains-push old n)
])

-- a vector that was written to as a slice has the slice
pub written_back : {X : Type 0} (new old : List X) (len : ℕ) → length new ≡ length old → len ≡ length old → take len (new ++ drop (length new) old) ≡ new
written_back new old len same is =
    let none : drop (length new) old ≡ [] = drop_all (length new) old (omega arith) in
    ap (λ rest. take len (new ++ rest)) none ∙ ap (take len) (append-nil new) ∙ take_all len new (omega arith)
