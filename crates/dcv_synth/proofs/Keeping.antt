-- The start and the states of Win, as a filtered list.
use Rattle.std.proofs.Common.{◌≡◌, ℕ, zero, suc, ◌+◌, ◌<◌, cond, Bool, true, false, List, [], ◌∷◌, ◌++◌, Contains, ap, sym, ◌∙◌, subst, arith}
use Rattle.std.specs.List.{All, AllPairs, filter, range_with_len}
use Rattle.std.proofs.lemmas.List.FromFn.{length-range_with_len, get_or-range_with_len}
use Rattle.std.proofs.lemmas.List.Elements.{All-filter, All-from_get_or, All-contains, filter_passes, filter-append}
use Rattle.std.proofs.lemmas.List.Kept.{AllPairs-filter}

module _ (p : ℕ → Bool) where
  pub kept_below : (n : ℕ) → All (λ state. state < n) (filter p (range_with_len 0 n))
  kept_below n =
      All-filter p (λ state. state < n) (range_with_len 0 n)
      (All-from_get_or (λ state. state < n) (range_with_len 0 n) 0
      (λ i within.
      let inside : i < n = omega (arith, within, length-range_with_len 0 n) in
      let at = get_or-range_with_len 0 n i 0 inside in
      omega (arith, at, inside)))

  pub kept_in_order : (n : ℕ) → AllPairs (λ (one other : ℕ). one < other) (filter p (range_with_len 0 n))
  kept_in_order n =
      AllPairs-filter (λ (one other : ℕ). one < other) p (range_with_len 0 n)
      (λ i j d less within.
      let inside : j < n = omega (arith, within, length-range_with_len 0 n) in
      let first = get_or-range_with_len 0 n i d (omega (arith, less, inside)) in
      let second = get_or-range_with_len 0 n j d inside in
      omega (arith, first, second, less))

  pub kept_pass : (n state : ℕ) → Contains (filter p (range_with_len 0 n)) state → p state ≡ true
  kept_pass n state there = All-contains (λ x. p x ≡ true) (filter p (range_with_len 0 n)) state (filter_passes p (range_with_len 0 n)) there

  keeps : (xs : List ℕ) (state : ℕ) → p state ≡ true → Contains xs state → Contains (filter p xs) state
  keeps [] state passes (place, within, at) = absurd (omega (arith, within))
  keeps (x ∷ xs) state passes (zero, within, at) =
      subst (λ b. Contains (cond b (x ∷ filter p xs) (filter p xs)) state) (sym (ap p at ∙ passes)) (0, omega arith, at)
  keeps (x ∷ xs) state passes (suc place, within, at) = by (p x) (keeps xs state passes (place, omega (arith, within), at))
    where
      by : (b : Bool) → Contains (filter p xs) state → Contains (cond b (x ∷ filter p xs) (filter p xs)) state
      by true (k, less, is) = (suc k, omega (arith, less), is)
      by false there = there

  pub kept_there : (n state : ℕ) → state < n → p state ≡ true → Contains (filter p (range_with_len 0 n)) state
  kept_there n state within passes =
      let same : 0 + state ≡ state = omega arith in
      keeps (range_with_len 0 n) state passes (state, omega (arith, within, length-range_with_len 0 n), get_or-range_with_len 0 n state state within ∙ same)

  pub kept_more : (n : ℕ) → filter p (range_with_len 0 (n + 1)) ≡ filter p (range_with_len 0 n) ++ cond (p n) (n ∷ []) []
  kept_more n = ap (filter p) (ranges n) ∙ filter-append p (range_with_len 0 n) (n ∷ [])
    where
      more : (n from : ℕ) → range_with_len from (suc n) ≡ range_with_len from n ++ (from + n) ∷ []
      more zero from =
          let same : from ≡ from + zero = omega arith in
          ap (λ last. last ∷ []) same
      more (suc n) from =
          let next : from + 1 + n ≡ from + suc n = omega arith in
          ap (λ rest. from ∷ rest) (more n (from + 1) ∙ ap (λ last. range_with_len (from + 1) n ++ last ∷ []) next)

      ranges : (n : ℕ) → range_with_len 0 (n + 1) ≡ range_with_len 0 n ++ n ∷ []
      ranges n =
          let one : n + 1 ≡ suc n = omega arith in
          let same : 0 + n ≡ n = omega arith in
          ap (range_with_len 0) one ∙ more n 0 ∙ ap (λ last. range_with_len 0 n ++ last ∷ []) same
