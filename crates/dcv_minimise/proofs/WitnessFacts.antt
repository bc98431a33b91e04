-- There are at most as many blocks as states, since different blocks have different witnesses.
use Rattle.std.proofs.Common.{◌≡◌, ◌≢◌, inl, inr, ℕ, zero, suc, ◌<◌, ◌≤◌, List, ◌∷◌, length, eqb, get_or, sym, ap, ◌∙◌, arith}
use Rattle.std.specs.Cmp.{unsigned_Decides}
use Rattle.std.specs.List.{All, AllPairs}
use Rattle.std.proofs.lemmas.Bool.{eqb-true, cases_eq}
use Rattle.std.proofs.lemmas.List.{get_or_default}
use Rattle.std.proofs.lemmas.List.Folds.{Any-from_list_any}
use Rattle.std.proofs.lemmas.Map.Made.{IsDistinct-from_AllPairs}
use Rattle.std.proofs.lemmas.Map.Steps.{length-le_from_distinct_below}
use Rattle.dcv_dfa.specs.Raw.{RawValue, next_in}
use Rattle.dcv_refinement.specs.Members.{block_of}
use Rattle.dcv_minimise.specs.Rounds.{AreAlike, IsWitnessed, witness_of}
use Rattle.dcv_minimise.specs.Division.{IsGrouped}

-- different numbers below a bound are no more than the bound
pub few_below : (numbers : List ℕ) (bound : ℕ) → All (λ number. number < bound) numbers → AllPairs (λ first second. first ≢ second) numbers → length numbers ≤ bound
few_below numbers bound below apart =
    length-le_from_distinct_below numbers bound (IsDistinct-from_AllPairs unsigned_Decides numbers apart)
    (λ q found.
    let one = Any-from_list_any (eqb q) numbers found in
    let same = eqb-true q one.1 one.4 in
    let inside : get_or numbers one.0 one.1 < bound = below one.0 one.1 one.2 in
    omega (arith, same, one.3, inside))

pub few_blocks : (raw : RawValue) (blocks witness : List ℕ) → IsWitnessed raw blocks witness → length witness ≤ length raw.rows
few_blocks raw blocks witness is =
    few_below witness (length raw.rows)
    (λ k d within.
    let inside : get_or witness k 0 < length raw.rows = is.states k within in
    omega (arith, inside, get_or_default witness k d 0 within))
    (λ i j d before within same.
    let first : i < length witness = omega arith in
    let equal = sym (get_or_default witness i d 0 first) ∙ same ∙ get_or_default witness j d 0 within in
    omega (arith, sym (is.own i first) ∙ ap (block_of blocks) equal ∙ is.own j within))

-- a state is alike to itself
pub alike_itself : (raw : RawValue) (blocks : List ℕ) (first second : ℕ) → first ≡ second → AreAlike raw blocks first second
alike_itself raw blocks first second same = record {
  block = ap (block_of blocks) same;
  row = record { leads = λ letter size. ap (λ state. block_of blocks (next_in raw state letter)) same };
}

pub few_grouped : (raw : RawValue) (blocks : List ℕ) (count : ℕ) (witness : List ℕ) → IsGrouped raw blocks count witness → length witness ≤ length raw.rows
few_grouped raw blocks count witness is =
    few_below witness (length raw.rows) is.states (λ i j d before within same.
    is.apart i j d before within (alike_itself raw blocks (get_or witness i d) (get_or witness j d) same))

-- ---- as many blocks as states

module _ (raw : RawValue) (blocks witness : List ℕ) (is : IsWitnessed raw blocks witness) (state : ℕ) (inside : state < length raw.rows) where
  inside_each : All (λ number. number < length raw.rows) (state ∷ witness)
  inside_each zero d within = inside
  inside_each (suc k) d within =
      let there : k < length witness = omega (arith, within) in
      let below : get_or witness k 0 < length raw.rows = is.states k there in
      omega (arith, below, get_or_default witness k d 0 there)

  apart : state ≢ witness_of blocks witness state → AllPairs (λ first second. first ≢ second) (state ∷ witness)
  apart other zero zero d before within same = absurd (omega (arith, before))
  apart other zero (suc j) d before within same =
      let there : j < length witness = omega (arith, within) in
      let one : state ≡ get_or witness j 0 = same ∙ get_or_default witness j d 0 there in
      let block : block_of blocks state ≡ j = ap (block_of blocks) one ∙ is.own j there in
      other (one ∙ ap (λ block. get_or witness block 0) (sym block))
  apart other (suc i) zero d before within same = absurd (omega (arith, before))
  apart other (suc i) (suc j) d before within same =
      let first : i < length witness = omega (arith, before, within) in
      let second : j < length witness = omega (arith, within) in
      let equal = sym (get_or_default witness i d 0 first) ∙ same ∙ get_or_default witness j d 0 second in
      omega (arith, before, sym (is.own i first) ∙ ap (block_of blocks) equal ∙ is.own j second)

  -- each state is then the witness of its block
  pub own_witness : length raw.rows ≤ length witness → state ≡ witness_of blocks witness state
  own_witness many = elim (cases_eq state (witness_of blocks witness state)) [
    | inl same ↦ same
    | inr other ↦ absurd (let few = few_below (state ∷ witness) (length raw.rows) inside_each (apart other) in omega (arith, few, many))
  ]
