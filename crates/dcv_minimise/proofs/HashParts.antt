-- One more state is put into the block of its part.
use Rattle.std.proofs.Common.{◌≡◌, ◌≢◌, ℕ, zero, suc, ◌+◌, ◌<◌, Bool, true, false, if◌then◌else◌, nat_eq, List, [], ◌∷◌, ◌++◌, length, get_or, Some, slice_get, inl, inr, refl, sym, ap, subst, ◌∙◌, arith}
use Rattle.std.specs.Bool.{Decides}
use Rattle.std.specs.Cmp.{unsigned_Decides}
use Rattle.std.specs.List.{list_any}
use Rattle.std.proofs.lemmas.Bool.{cases_order, false≢true}
use Rattle.std.proofs.lemmas.Bool.Decides.{Decides-and}
use Rattle.std.proofs.lemmas.Map.Keys.{any_passes_from_place}
use Rattle.indexmap.specs.IndexSet.{insert_key}
use Rattle.std.proofs.lemmas.List.{get_or_append_left, get_or_push, length_push}
use Rattle.std.proofs.lemmas.Option.{slice_get_within}
use Rattle.dcv_refinement.specs.Members.{block_of}
use Rattle.dcv_minimise.specs.Hashes.{IsPut, AreDivided}
use Rattle.dcv_minimise.specs.declared.refine.hashes.Alike.{Alike}
use Rattle.dcv_minimise.specs.contracts.refine.hashes.AlikePartialEq.TheImpl.{eq-value as alike_eq}
use Rattle.dcv_minimise.proofs.Places.{pushed_cases}

-- ---- a part that is inserted

same_alikes : (a b : Alike) → Decides (alike_eq.it a b) (a ≡ b)
same_alikes a b =
    let both = Decides-and (nat_eq a.block b.block) (nat_eq a.hash b.hash) (unsigned_Decides a.block b.block) (unsigned_Decides a.hash b.hash) in (
      λ t. let parts = both.0 t in λ i. record { block = parts.0 i; hash = parts.1 i },
      λ e. both.1 (ap (λ part. part.block) e, ap (λ part. part.hash) e),
    )

absent_there : (parts : List Alike) (part : Alike) → list_any (alike_eq.it part) parts ≡ false → (place : ℕ) → slice_get parts place ≢ Some part
absent_there parts part none place e = false≢true (sym none ∙ any_passes_from_place (alike_eq.it part) parts place part e ((same_alikes part part).1 refl))

module _ (old new : List Alike) (blocks witness : List ℕ) (part : Alike) (place state : ℕ) (inserted : new ≡ insert_key alike_eq.it old part)
    (stored : (one : Alike) × (slice_get new place ≡ Some one) × (alike_eq.it part one ≡ true)) where
  stands : slice_get new place ≡ Some part
  stands = stored.1 ∙ ap Some (sym ((same_alikes part stored.0).0 stored.2))

  chosen : (found : Bool) → list_any (alike_eq.it part) old ≡ found → new ≡ (if found then old else old ++ part ∷ [])
  chosen found e = inserted ∙ ap (λ found. if found then old else old ++ part ∷ []) e

  pub put_new : list_any (alike_eq.it part) old ≡ false → IsPut Alike old new blocks (blocks ++ place ∷ []) witness (witness ++ state ∷ []) part state
  put_new none =
      let more : new ≡ old ++ part ∷ [] = chosen false none in
      let absent = absent_there old part none in
      let last : place ≡ length old = elim (pushed_cases old part place part (ap (λ parts. slice_get parts place) (sym more) ∙ stands)) [
        | inl before ↦ absurd (absent place before)
        | inr last ↦ last.0
      ] in
      record { number = place; block = refl; own = stands; grows = inr (absent, last, more, refl) }

-- ---- all of them

-- what stands in a list stands there in a longer one
kept_at : (X : Type 0) (xs : List X) (x : X) (place : ℕ) (y : X) → slice_get xs place ≡ Some y → slice_get (xs ++ x ∷ []) place ≡ Some y
kept_at X [] x place y at = absurd (omega (arith, slice_get_within [] place y at))
kept_at X (z ∷ xs) x zero y at = at
kept_at X (z ∷ xs) x (suc place) y at = kept_at X xs x place y at

module _ (X : Type 0) (part : ℕ → X) (count : ℕ) (parts : List X) (blocks witness : List ℕ) (was : AreDivided X part count parts blocks witness) where
  -- the blocks of the states that there were
  block_kept : (number state : ℕ) → state < count → block_of (blocks ++ number ∷ []) state ≡ block_of blocks state
  block_kept number state within = get_or_append_left blocks (number ∷ []) 0 state (omega (arith, was.each))

  block_last : (number : ℕ) → block_of (blocks ++ number ∷ []) count ≡ number
  block_last number = get_or_push blocks number 0 count was.each

  each_more : (number : ℕ) → length (blocks ++ number ∷ []) ≡ count + 1
  each_more number = omega (arith, length_push blocks number, was.each)

  -- a part that is there
  there : (number : ℕ) → slice_get parts number ≡ Some (part count) → AreDivided X part (count + 1) parts (blocks ++ number ∷ []) witness
  there number at = record {
    each = each_more number;
    size = was.size;
    few = omega (arith, was.few);
    once = was.once;
    own_parts = λ state within. elim (cases_order state count) [
      | inl same ↦
          ap (λ state. slice_get parts (block_of (blocks ++ number ∷ []) state)) same ∙ ap (slice_get parts) (block_last number) ∙ at ∙ ap (λ state. Some (part state)) (sym same)
      | inr (inl before) ↦ ap (slice_get parts) (block_kept number state before) ∙ was.own_parts state before
      | inr (inr behind) ↦ absurd (omega arith)
    ];
    states = λ block within. let below = was.states block within in omega (arith, below);
    own = λ block within. block_kept number (get_or witness block 0) (was.states block within) ∙ was.own block within;
  }

  -- a new part
  module _ (absent : (place : ℕ) → slice_get parts place ≢ Some (part count)) where
    abbrev more : List X
    more = parts ++ part count ∷ []

    abbrev number : ℕ
    number = length parts

    once_more : slice_get more number ≡ Some (part count) → (first second : ℕ) (one : X) → slice_get more first ≡ Some one → slice_get more second ≡ Some one → first ≡ second
    once_more last first second one at here =
        elim (pushed_cases parts (part count) first one at) [
          | inl before ↦ elim (pushed_cases parts (part count) second one here) [
            | inl there ↦ was.once first second one before there
            | inr end ↦ absurd (absent first (before ∙ ap Some (sym end.1)))
          ]
          | inr start ↦ elim (pushed_cases parts (part count) second one here) [
            | inl there ↦ absurd (absent second (there ∙ ap Some (sym start.1)))
            | inr end ↦ start.0 ∙ sym end.0
          ]
        ]

    added : slice_get more number ≡ Some (part count) → AreDivided X part (count + 1) more (blocks ++ number ∷ []) (witness ++ count ∷ [])
    added last = record {
      each = each_more number;
      size = omega (arith, length_push witness count, was.size, length_push parts (part count));
      few = omega (arith, was.few, length_push parts (part count));
      once = once_more last;
      own_parts = λ state within. elim (cases_order state count) [
        | inl same ↦
            ap (λ state. slice_get more (block_of (blocks ++ number ∷ []) state)) same ∙ ap (slice_get more) (block_last number) ∙ last ∙ ap (λ state. Some (part state)) (sym same)
        | inr (inl before) ↦
            ap (slice_get more) (block_kept number state before)
            ∙ kept_at X parts (part count) (block_of blocks state) (part state) (was.own_parts state before)
        | inr (inr behind) ↦ absurd (omega arith)
      ];
      states = λ block within. elim (cases_order block (length witness)) [
        | inl same ↦ omega (arith, get_or_push witness count 0 block (sym same))
        | inr (inl before) ↦ let below = was.states block before in omega (arith, get_or_append_left witness (count ∷ []) 0 block before, below)
        | inr (inr behind) ↦ absurd (omega (arith, length_push witness count))
      ];
      own = λ block within. elim (cases_order block (length witness)) [
        | inl same ↦
            ap (block_of (blocks ++ number ∷ [])) (get_or_push witness count 0 block (sym same)) ∙ block_last number ∙ sym was.size ∙ sym same
        | inr (inl before) ↦
            ap (block_of (blocks ++ number ∷ [])) (get_or_append_left witness (count ∷ []) 0 block before)
            ∙ block_kept number (get_or witness block 0) (was.states block before)
            ∙ was.own block before
        | inr (inr behind) ↦ absurd (omega (arith, length_push witness count))
      ];
    }

  pub one_more_divided : (new_parts : List X) (new_blocks new_witness : List ℕ) → IsPut X parts new_parts blocks new_blocks witness new_witness (part count) count
      → AreDivided X part (count + 1) new_parts new_blocks new_witness
  one_more_divided new_parts new_blocks new_witness put =
      let P : List X × (List ℕ × List ℕ) → Type 0 = λ all. AreDivided X part (count + 1) all.0 all.1.0 all.1.1 in
      elim put.grows [
        | inl same ↦
            subst P (λ i. (sym same.0 i, (sym put.block i, sym same.1 i)))
            (there put.number (ap (λ parts. slice_get parts put.number) (sym same.0) ∙ put.own))
        | inr new ↦
            let number : put.number ≡ length parts = new.1 in
            let last : slice_get (parts ++ part count ∷ []) (length parts) ≡ Some (part count) =
            ap (slice_get (parts ++ part count ∷ [])) (sym number) ∙ ap (λ parts. slice_get parts put.number) (sym new.2) ∙ put.own in
            let block : blocks ++ length parts ∷ [] ≡ new_blocks = ap (λ number. blocks ++ number ∷ []) (sym number) ∙ sym put.block in
            subst P (λ i. (sym new.2 i, (block i, sym new.3 i))) (added new.0 last)
      ]
