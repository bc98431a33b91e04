-- The parts of an operand's rows, slot by slot: at the first slot the rows themselves, and at each later one both sides of the parts before it.
--     RowsSoFar view count rows     the rows of the first states are among these
--     sides_of_one_more             the sides of one more part
--     parts_after                   the sides of all parts are the parts at the next slot
use Rattle.std.proofs.Common.{◌≡◌, ◌⊎◌, inl, inr, ℕ, ◌+◌, ◌-◌, ◌<◌, ◌≤◌, Bool, true, false, cond, List, [], ◌∷◌, ◌++◌, length, filter, not, take, get_or, Contains, refl, sym, ap, subst, ◌∙◌, arith}
use Rattle.std.specs.List.{list_any}
use Rattle.std.proofs.lemmas.Bool.{cases_lt}
use Rattle.std.proofs.lemmas.List.{append_assoc, length-append, length-take, length-take-le, take_all, take_more, get_or-append_right}
use Rattle.std.proofs.lemmas.List.Filters.{length-filter_both}
use Rattle.std.proofs.lemmas.List.Elements.{Contains-append_left, Contains-push_cases}
use Rattle.indexmap.specs.IndexSet.{insert_key}
use Rattle.indexmap.proofs.CallerLemmas.{Contains-insert_key}
use Rattle.dcv_arena.specs.Arena.{ArenaValue, IsRef, level_of, value_of}
use Rattle.dcv_arena.specs.declared.nodes.Ref.{Ref}
use Rattle.dcv_arena.specs.contracts.nodes.RefPartialEq.TheImpl.{eq-value as ref_eq}
use Rattle.dcv_arena.proofs.Same.{same_refs}
use Rattle.dcv_shelf.specs.Stored.{ViewValue}
use Rattle.dcv_build.specs.Bounds.{AreParts, GoesOn, ArePartsAt, HasSides, AreSplit, next_of, states_of}

-- ---- sets of refs

-- of so many refs no more pass a test
pub passing_taken : (test : Ref → Bool) (refs : List Ref) (count : ℕ) → length (filter test (take count refs)) ≤ count
passing_taken test refs count =
    omega (arith, length-filter_both test (λ ref. not (test ref)) (λ ref. refl) (take count refs), length-take count refs)

abbrev with_ref : List Ref → Ref → List Ref
with_ref refs ref = insert_key ref_eq.it refs ref

inserted : (refs : List Ref) (ref : Ref) → Contains (with_ref refs ref) ref
inserted refs ref = Contains-insert_key ref_eq.it (λ x y e. (same_refs x y).0 e) refs ref

kept : (refs : List Ref) (ref other : Ref) → Contains refs other → Contains (with_ref refs ref) other
kept refs ref other there = by (list_any (ref_eq.it ref) refs)
  where
    by : (known : Bool) → Contains (cond known refs (refs ++ ref ∷ [])) other
    by true = there
    by false = Contains-append_left refs (ref ∷ []) other there

kept_or_new : (refs : List Ref) (ref other : Ref) → Contains (with_ref refs ref) other → Contains refs other ⊎ (ref ≡ other)
kept_or_new refs ref other there = by (list_any (ref_eq.it ref) refs) there
  where
    by : (known : Bool) → Contains (cond known refs (refs ++ ref ∷ [])) other → Contains refs other ⊎ (ref ≡ other)
    by true inside = inl inside
    by false inside = Contains-push_cases refs ref other inside

one_more_part : (arena : ArenaValue) (slot : ℕ) (parts : List Ref) (part : Ref) → AreParts arena slot parts → IsRef arena part → slot ≤ level_of arena part → AreParts arena slot (with_ref parts part)
one_more_part arena slot parts part are one later other there = elim (kept_or_new parts part other there) [
  | inl old ↦ are other old
  | inr same ↦ subst (λ ref. IsRef arena ref × (slot ≤ level_of arena ref)) same (one, later)
]

-- ---- the rows themselves

pub record RowsSoFar (view : ViewValue) (count : ℕ) (rows : List Ref) : Type 0 where
  pub refs : AreParts view.arena 0 rows
  pub each : (state : ℕ) → state < count → GoesOn view state [] rows

pub no_rows : (view : ViewValue) → RowsSoFar view 0 []
no_rows view = record {
  refs = λ part there. absurd (omega arith);
  each = λ state below. absurd (omega arith);
}

goes_on_in : (view : ViewValue) (state : ℕ) (rows : List Ref) (row : Ref) → GoesOn view state [] rows → GoesOn view state [] (with_ref rows row)
goes_on_in view state rows row on = record { part = on.part; among = kept rows row on.part on.among; numbers = on.numbers }

pub one_more_row : (view : ViewValue) (count : ℕ) (rows : List Ref) (row : Ref) → RowsSoFar view count rows → IsRef view.arena row
    → ((letter : List Bool) → length letter ≡ view.stored.slots → value_of view.arena row letter ≡ next_of view count letter)
    → RowsSoFar view (count + 1) (with_ref rows row)
one_more_row view count rows row so_far one steps = record {
  refs = one_more_part view.arena 0 rows row so_far.refs one (omega arith);
  each = λ state below. by state (ends state below);
}
  where
    ends : (state : ℕ) → state < count + 1 → (state < count) ⊎ (count ≡ state)
    ends state below = elim (cases_lt state count) [ inl earlier ↦ inl earlier | inr last ↦ inr (omega arith) ]

    by : (state : ℕ) → (state < count) ⊎ (count ≡ state) → GoesOn view state [] (with_ref rows row)
    by state (inl earlier) = goes_on_in view state rows row (so_far.each state earlier)
    by state (inr last) = subst (λ state. GoesOn view state [] (with_ref rows row)) last (record { part = row; among = inserted rows row; numbers = λ values size. steps values (omega (arith, size)) })

pub all_rows : (view : ViewValue) (count : ℕ) (rows : List Ref) → count ≡ states_of view → RowsSoFar view count rows → ArePartsAt view 0 rows
all_rows view count rows all so_far = record { refs = so_far.refs; behind = behind }
  where
    behind : (state : ℕ) (front : List Bool) → state < states_of view → length front ≡ 0 → GoesOn view state front rows
    behind state [] below size = so_far.each state (omega arith)
    behind state (value ∷ front) below size = absurd (omega (arith, size))

-- ---- both sides of each part

pub sides_of_one_more : (arena : ArenaValue) (slot : ℕ) (old new : List Ref) (part lo hi : Ref) → AreSplit arena slot old new
    → IsRef arena lo → IsRef arena hi → slot < level_of arena lo → slot < level_of arena hi
    → ((letter : List Bool) → value_of arena part letter ≡ cond (get_or letter slot false) (value_of arena hi letter) (value_of arena lo letter))
    → AreSplit arena slot (old ++ part ∷ []) (with_ref (with_ref new lo) hi)
sides_of_one_more arena slot old new part lo hi are lo_ref hi_ref lo_later hi_later value = record {
  refs = one_more_part arena (slot + 1) (with_ref new lo) hi (one_more_part arena (slot + 1) new lo are.refs lo_ref (omega arith)) hi_ref (omega arith);
  sides = λ other there. by other (Contains-push_cases old part other there);
}
  where
    still : (other : Ref) → Contains new other → Contains (with_ref (with_ref new lo) hi) other
    still other there = kept (with_ref new lo) hi other (kept new lo other there)

    by : (other : Ref) → Contains old other ⊎ (part ≡ other) → HasSides arena slot other (with_ref (with_ref new lo) hi)
    by other (inl earlier) =
        let has = are.sides other earlier in
        record { lo = has.lo; hi = has.hi; has_lo = still has.lo has.has_lo; has_hi = still has.hi has.has_hi; value = has.value }
    by other (inr last) = subst (λ other. HasSides arena slot other (with_ref (with_ref new lo) hi)) last (record {
      lo = lo;
      hi = hi;
      has_lo = kept (with_ref new lo) hi lo (inserted new lo);
      has_hi = inserted (with_ref new lo) hi;
      value = value;
    })

-- ---- the parts at the next slot

value_behind : (front : List Bool) (value : Bool) (values : List Bool) (slot : ℕ) → length front ≡ slot → get_or (front ++ value ∷ values) slot false ≡ value
value_behind front value values slot size =
    let first : slot - slot ≡ 0 = omega arith in
    get_or-append_right front (value ∷ values) slot slot false size (omega arith)
    ∙ ap (λ place. get_or (value ∷ values) place false) first

module _ (view : ViewValue) (slot : ℕ) (old new : List Ref) (parts : ArePartsAt view slot old) (split : AreSplit view.arena slot old new) where
  side_behind : (state : ℕ) (front : List Bool) (value : Bool) → state < states_of view → length front ≡ slot → GoesOn view state (front ++ value ∷ []) new
  side_behind state front value below size = by value refl
    where
      on : GoesOn view state front old
      on = parts.behind state front below size

      has : HasSides view.arena slot on.part new
      has = split.sides on.part on.among

      goes : (values : List Bool) → length (front ++ value ∷ []) + length values ≡ view.stored.slots
          → cond value (value_of view.arena has.hi ((front ++ value ∷ []) ++ values)) (value_of view.arena has.lo ((front ++ value ∷ []) ++ values)) ≡ next_of view state ((front ++ value ∷ []) ++ values)
      goes values whole =
          let letter : List Bool = front ++ value ∷ values in
          let joined : (front ++ value ∷ []) ++ values ≡ letter = append_assoc front (value ∷ []) values in
          let goes_by : cond value (value_of view.arena has.hi letter) (value_of view.arena has.lo letter) ≡ next_of view state letter =
          (λ i. cond (sym (value_behind front value values slot size) i) (value_of view.arena has.hi letter) (value_of view.arena has.lo letter))
          ∙ sym (has.value letter)
          ∙ on.numbers (value ∷ values) (omega (arith, whole, length-append front (value ∷ []))) in
          subst (λ letter. cond value (value_of view.arena has.hi letter) (value_of view.arena has.lo letter) ≡ next_of view state letter) (sym joined) goes_by

      by : (side : Bool) → value ≡ side → GoesOn view state (front ++ value ∷ []) new
      by true is = record { part = has.hi; among = has.has_hi; numbers = λ values whole. ap (λ side. cond side (value_of view.arena has.hi ((front ++ value ∷ []) ++ values)) (value_of view.arena has.lo ((front ++ value ∷ []) ++ values))) (sym is) ∙ goes values whole }
      by false is = record { part = has.lo; among = has.has_lo; numbers = λ values whole. ap (λ side. cond side (value_of view.arena has.hi ((front ++ value ∷ []) ++ values)) (value_of view.arena has.lo ((front ++ value ∷ []) ++ values))) (sym is) ∙ goes values whole }

  pub parts_after : ArePartsAt view (slot + 1) new
  parts_after = record {
    refs = split.refs;
    behind = λ state front below size.
        let joined : take slot front ++ get_or front slot false ∷ [] ≡ front = sym (take_more front slot false (omega (arith, size))) ∙ take_all (slot + 1) front (omega (arith, size)) in
        subst (λ front. GoesOn view state front new) joined (side_behind state (take slot front) (get_or front slot false) below (length-take-le slot front (omega (arith, size))));
  }
