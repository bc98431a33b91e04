-- Sizes after a state was moved to another block, which may be a new one.
use Rattle.std.proofs.Common.{◌≡◌, inl, inr, ℕ, ◌<◌, ◌≤◌, ◌+◌, ◌-◌, ◌==◌, List, [], ◌∷◌, ◌++◌, length, get_or, set, All, refl, ap, sym, ◌∙◌, arith}
use Rattle.std.proofs.lemmas.Bool.{cases_lt, cases_eq, eq-eqb, ne_eqb}
use Rattle.std.proofs.lemmas.List.{get_or-set_same, get_or-set_other, length-set, length-append, get_or_append_left}
use Rattle.std.proofs.Math.Seq.{get_or-append_seam}
use Rattle.dcv_refinement.specs.Members.{block_of}
use Rattle.dcv_certificate.specs.Separation.{count_below}
use Rattle.dcv_certificate.specs.Tallies.{AreSizes}
use Rattle.dcv_certificate.proofs.Counting.{one_if, count_change, count_none, count_some}
use Rattle.dcv_certificate.proofs.Sizing.{count-le}

-- ---- sizes

pub sizes_grown : (blocks sizes : List ℕ) → All (λ block. block < length sizes) blocks → AreSizes blocks (length sizes) sizes → AreSizes blocks (length sizes + 1) (sizes ++ 0 ∷ [])
sizes_grown blocks sizes low s = record {
  each = length-append sizes (0 ∷ []);
  are = λ block below. elim (cases_lt block (length sizes)) [
    | inl h ↦ s.are block h ∙ sym (get_or_append_left sizes (0 ∷ []) 0 block h)
    | inr h ↦
        let e : block ≡ length sizes = omega arith in
        count_none (length blocks) (λ state. block_of blocks state == block) (λ state l. ne_eqb (block_of blocks state) block (λ same. omega (arith, low state 0 l)))
        ∙ sym (ap (λ block. get_or (sizes ++ 0 ∷ []) block 0) e ∙ get_or-append_seam sizes 0 [] 0)
  ];
}

-- a state has a block, which is not empty
pub size_some : (blocks sizes : List ℕ) (count state : ℕ) → AreSizes blocks count sizes → state < length blocks → block_of blocks state < count → 0 < get_or sizes (block_of blocks state) 0
size_some blocks sizes count state s within below =
    let block = block_of blocks state in
    omega (arith, s.are block below, count_some (length blocks) (λ n. block_of blocks n == block) state within (eq-eqb block block refl))

pub size_le : (blocks sizes : List ℕ) (count block : ℕ) → AreSizes blocks count sizes → block < count → get_or sizes block 0 ≤ length blocks
size_le blocks sizes count block s below = omega (arith, s.are block below, count-le (length blocks) (λ state. block_of blocks state == block))

module _ (blocks sizes : List ℕ) (count state block : ℕ) (s : AreSizes blocks count sizes) (within : state < length blocks) (low : block_of blocks state < count) (below : block < count) where
  abbrev pub fewer : List ℕ
  fewer = set sizes (block_of blocks state) (get_or sizes (block_of blocks state) 0 - 1)

  abbrev pub shifted : List ℕ
  shifted = set fewer block (get_or fewer block 0 + 1)

  fewer_size : length fewer ≡ length sizes
  fewer_size = length-set sizes (block_of blocks state) (get_or sizes (block_of blocks state) 0 - 1)

  fewer_at : (k : ℕ) → k < count → get_or fewer k 0 + one_if (block_of blocks state == k) ≡ get_or sizes k 0
  fewer_at k h =
      let old = block_of blocks state in
      elim (cases_eq old k) [
        | inl e ↦
            let one : one_if (old == k) ≡ 1 = ap one_if (eq-eqb old k e) in
            let there : get_or fewer old 0 ≡ get_or sizes old 0 - 1 = get_or-set_same sizes old (get_or sizes old 0 - 1) 0 (omega (arith, s.each)) in
            let here : get_or fewer k 0 ≡ get_or fewer old 0 = ap (λ k. get_or fewer k 0) (sym e) in
            let same : get_or sizes k 0 ≡ get_or sizes old 0 = ap (λ k. get_or sizes k 0) (sym e) in
            let some = size_some blocks sizes count state s within low in
            omega arith
        | inr ne ↦
            let none : one_if (old == k) ≡ 0 = ap one_if (ne_eqb old k ne) in
            let there : get_or fewer k 0 ≡ get_or sizes k 0 = get_or-set_other sizes old k (get_or sizes old 0 - 1) 0 (λ e. ne (sym e)) in
            omega arith
      ]

  -- so there is room for one more
  pub size_fits : get_or fewer block 0 ≤ length blocks
  size_fits = omega (arith, fewer_at block below, size_le blocks sizes count block s below)

  shifted_at : (k : ℕ) → k < count → get_or shifted k 0 ≡ get_or fewer k 0 + one_if (block == k)
  shifted_at k h = elim (cases_eq block k) [
    | inl e ↦
        let one : one_if (block == k) ≡ 1 = ap one_if (eq-eqb block k e) in
        let there : get_or shifted block 0 ≡ get_or fewer block 0 + 1 = get_or-set_same fewer block (get_or fewer block 0 + 1) 0 (omega (arith, s.each, fewer_size)) in
        let here : get_or shifted k 0 ≡ get_or shifted block 0 = ap (λ k. get_or shifted k 0) (sym e) in
        let same : get_or fewer k 0 ≡ get_or fewer block 0 = ap (λ k. get_or fewer k 0) (sym e) in
        omega arith
    | inr ne ↦
        let none : one_if (block == k) ≡ 0 = ap one_if (ne_eqb block k ne) in
        let there : get_or shifted k 0 ≡ get_or fewer k 0 = get_or-set_other fewer block k (get_or fewer block 0 + 1) 0 (λ e. ne (sym e)) in
        omega arith
  ]

  pub sizes_shifted : AreSizes (set blocks state block) count shifted
  sizes_shifted = record {
    each = omega (arith, s.each, fewer_size, length-set fewer block (get_or fewer block 0 + 1));
    are = λ k h.
        let new = set blocks state block in
        let change : count_below (length blocks) (λ n. block_of new n == k) + one_if (block_of blocks state == k) ≡ count_below (length blocks) (λ n. block_of blocks n == k) + one_if (block_of new state == k) =
        count_change (length blocks) (λ n. block_of new n == k) (λ n. block_of blocks n == k) state within (λ n ne. ap (λ block. block == k) (get_or-set_other blocks state n block 0 ne)) in
        let moved : one_if (block_of new state == k) ≡ one_if (block == k) = ap (λ block. one_if (block == k)) (get_or-set_same blocks state block 0 within) in
        let size : count_below (length new) (λ n. block_of new n == k) ≡ count_below (length blocks) (λ n. block_of new n == k) = ap (λ count. count_below count (λ n. block_of new n == k)) (length-set blocks state block) in
        omega (arith, change, moved, size, s.are k h, fewer_at k h, shifted_at k h);
  }
