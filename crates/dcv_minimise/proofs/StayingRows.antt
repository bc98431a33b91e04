-- Rows that stay as they are: where all states are kept, each in its place, its number is its own.
use Rattle.std.proofs.Common.{◌≡◌, ◌≢◌, inl, inr, ℕ, ◌+◌, ◌<◌, ◌==◌, ◌&&◌, Bool, true, false, List, [], ◌∷◌, length, get_or, refl, sym, ap, ◌∙◌, subst, arith}
use Rattle.std.specs.List.{enumerate_from, list_all, range_with_len}
use Rattle.std.proofs.lemmas.Bool.{cases_eq, cases_lt, eqb-true, false≢true}
use Rattle.std.proofs.lemmas.List.FromFn.{get_or-range_with_len, length-range_with_len}
use Rattle.dcv_arena.specs.Arena.{HasOnlyNodesOf}
use Rattle.dcv_dfa.specs.Raw.{RawValue, IsRaw, next_in}
use Rattle.dcv_dfa.proofs.States.{leads_below}
use Rattle.dcv_refinement.specs.Members.{block_of}
use Rattle.dcv_minimise.specs.Partition.{IsPartition}
use Rattle.dcv_minimise.specs.Classes.{IsKeptList, AreNumbers, block_at}
use Rattle.dcv_minimise.specs.Folded.{HasKeptRows}

and_parts : (a b : Bool) → (a && b) ≡ true → (a ≡ true) × (b ≡ true)
and_parts true b is = (refl, is)
and_parts false b is = absurd (false≢true is)

-- numbers of which each stands at the place that it is
pub in_order : (from : ℕ) (states : List ℕ) → list_all (λ (at : ℕ × ℕ). at.1 == at.0) (enumerate_from from states) ≡ true → states ≡ range_with_len from (length states)
in_order from [] is = refl
in_order from (state ∷ states) is =
    let both = and_parts (state == from) (list_all (λ (at : ℕ × ℕ). at.1 == at.0) (enumerate_from (from + 1) states)) is in
    let here : state ≡ from = eqb-true state from both.0 in
    let rest = in_order (from + 1) states both.1 in
    λ i. here i ∷ rest i

module _ (raw : RawValue) (is : IsRaw raw) (blocks : List ℕ) (partition : IsPartition raw blocks) (kept : List ℕ) (list : IsKeptList raw blocks kept)
    (each : kept ≡ range_with_len 0 (length raw.rows)) where
  abbrev numbers : List ℕ
  numbers = range_with_len 0 (length raw.rows)

  as_many : length kept ≡ length raw.rows
  as_many = ap length each ∙ length-range_with_len 0 (length raw.rows)

  none_more : (n : ℕ) → 0 + n ≡ n
  none_more n = omega arith

  own_number : (state : ℕ) → state < length raw.rows → get_or numbers state 0 ≡ state
  own_number state within = get_or-range_with_len 0 (length raw.rows) state 0 within ∙ none_more state

  in_place : (place : ℕ) → place < length raw.rows → get_or kept place 0 ≡ place
  in_place place within = ap (λ (states : List ℕ). get_or states place 0) each ∙ own_number place within

  block_at_place : (place : ℕ) → place < length raw.rows → block_at blocks kept place ≡ block_of blocks place
  block_at_place place within = ap (block_of blocks) (in_place place within)

  -- no two states have one block
  apart_before : (first second : ℕ) → first < second → second < length raw.rows → block_of blocks first ≢ block_of blocks second
  apart_before first second before within same =
      list.apart first second 0 before (omega (arith, as_many, within))
      (block_at_place first (omega (arith, before, within)) ∙ same ∙ sym (block_at_place second within))

  one_state : (state number : ℕ) → state < length raw.rows → number < length raw.rows → block_of blocks state ≡ block_of blocks number → state ≡ number
  one_state state number here there same = elim (cases_eq state number) [
    | inl equal ↦ equal
    | inr differ ↦ elim (cases_lt state number) [
      | inl before ↦ absurd (apart_before state number before there same)
      | inr behind ↦ absurd (apart_before number state (omega (arith, differ, behind)) here (sym same))
    ]
  ]

  are_numbers : AreNumbers blocks kept numbers
  are_numbers = record {
    beside = length-range_with_len 0 (length raw.rows) ∙ sym partition.each;
    below = λ number d within.
        let inside : number < length raw.rows = omega (arith, within, length-range_with_len 0 (length raw.rows)) in
        subst (λ n. n < length kept) (sym (get_or-range_with_len 0 (length raw.rows) number d inside ∙ none_more number)) (omega (arith, inside, as_many));
    each = λ state number here there same.
        let inside : state < length raw.rows = omega (arith, here, partition.each) in
        let below : number < length raw.rows = omega (arith, there, as_many) in
        own_number state inside ∙ one_state state number inside below (same ∙ block_at_place number below);
  }

  -- each letter leads to the state whose number it leads to
  values : (place : ℕ) (letter : List Bool) → place < length raw.rows → length letter ≡ raw.arena.slots
      → next_in raw place letter ≡ get_or numbers (next_in raw (get_or kept place 0) letter) 0
  values place letter within size =
      sym (own_number (next_in raw place letter) (leads_below raw is place within letter size))
      ∙ ap (λ state. get_or numbers (next_in raw state letter) 0) (sym (in_place place within))

  pub stay : HasOnlyNodesOf raw.arena raw.rows → HasKeptRows raw blocks kept raw.arena raw.rows
  stay own = record {
    numbers = numbers;
    are = are_numbers;
    has = record { arena_is = is.arena; slots = refl; refs = is.rows; values = values; nodes = own };
    count = sym as_many;
  }
