-- The witnesses of the blocks by flags: state 0, and the first state that is in the other block.
use Rattle.std.proofs.Common.{◌≡◌, ℕ, zero, suc, ◌<◌, ◌≤◌, List, [], ◌∷◌, length, get_or, eqb, position, None, Some, inl, inr, arith}
use Rattle.std.specs.List.{position_or_len}
use Rattle.std.proofs.lemmas.Bool.{cases_lt, eqb-true, eqb-false, cases_eq}
use Rattle.std.proofs.lemmas.List.Quantifiers.{position-Some}
use Rattle.std.proofs.lemmas.List.Sums.{fails_before_first}
use Rattle.dcv_refinement.specs.Members.{block_of}
use Rattle.dcv_minimise.specs.Rounds.{IsByNumber}

module _ (blocks : List ℕ) (some : 0 < length blocks) (two : (state : ℕ) → state < length blocks → block_of blocks state < 2) (first_is : block_of blocks 0 ≡ 0) where
  none_first : position (λ block. eqb block 1) blocks ≡ None → length blocks ≤ position_or_len (λ block. eqb block 1) blocks
  none_first none = elim (cases_lt (position_or_len (λ block. eqb block 1) blocks) (length blocks)) [
    | inl within ↦ absurd (grind (arith, none, within))
    | inr many ↦ many
  ]

  pub one_witness : position (λ block. eqb block 1) blocks ≡ None → IsByNumber blocks (0 ∷ [])
  one_witness none = record {
    numbers = λ state inside.
        let fails = eqb-false (block_of blocks state) 1 (fails_before_first (λ block. eqb block 1) blocks state 0 (omega (arith, none_first none, inside))) in
        let low = two state inside in
        elim (cases_eq (block_of blocks state) 1) [ inl one ↦ absurd (fails one) | inr other ↦ omega (arith, low, other) ];
    states = λ block within. at_first block within;
    own = λ block within. own_first block within;
  }
    where
      at_first : (block : ℕ) → block < 1 → get_or (0 ∷ []) block 0 < length blocks
      at_first zero within = some
      at_first (suc block) within = absurd (omega arith)

      own_first : (block : ℕ) → block < 1 → block_of blocks (get_or (0 ∷ []) block 0) ≡ block
      own_first zero within = first_is
      own_first (suc block) within = absurd (omega arith)

  pub two_witnesses : (other : ℕ) → position (λ block. eqb block 1) blocks ≡ Some other → IsByNumber blocks (0 ∷ other ∷ [])
  two_witnesses other found = record {
    numbers = two;
    states = λ block within. at_both block within;
    own = λ block within. own_both block within;
  }
    where
      there : (other < length blocks) × (block_of blocks other ≡ 1)
      there =
          let is = position-Some (λ block. eqb block 1) blocks other 0 found in
          (is.0, eqb-true (block_of blocks other) 1 is.1)

      at_both : (block : ℕ) → block < 2 → get_or (0 ∷ other ∷ []) block 0 < length blocks
      at_both zero within = some
      at_both (suc zero) within = there.0
      at_both (suc (suc block)) within = absurd (omega arith)

      own_both : (block : ℕ) → block < 2 → block_of blocks (get_or (0 ∷ other ∷ []) block 0) ≡ block
      own_both zero within = first_is
      own_both (suc zero) within = there.1
      own_both (suc (suc block)) within = absurd (omega arith)
