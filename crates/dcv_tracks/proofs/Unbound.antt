-- Where no shift of a goal looks at a quantified variable, none in the list of its shifts does.
use Rattle.std.proofs.Common.{◌≡◌, ℕ, zero, suc, ◌<◌, Bool, true, false, List, [], ◌∷◌, ◌++◌, Option, Some, None, refl, sym, ap, ◌∙◌, arith, true≢false}
use Rattle.std.specs.Prelude.{nat_le, if◌then◌else◌}
use Rattle.std.specs.List.{list_any, slice_get}
use Rattle.std.specs.Option.{option_or}
use Rattle.std.proofs.lemmas.Bool.Decides.{nat_tests}
use Rattle.dcv_core.specs.Core.{PlainTruth, TruthConstant, TruthSlot, TruthNot, TruthJoined, TruthShift, PlainTruths, no_truths, truth_operand}
use Rattle.dcv_core.specs.Core.{truth_in, CoreTree, CoreAtom, CoreNot, CoreJoined, CoreChop, CoreStar, CoreExists}
use Rattle.dcv_core.specs.Slots.{IsBelow, AreBelow}
use Rattle.dcv_tracks.specs.Shifting.{Shift, same_shift, with_shift, collected, all_collected, collected_by, collected_of, shifts_in}
use Rattle.dcv_tracks.specs.Shifting.{names_bound, some_names_bound, bound_in, first_bound, bound_by, bound_shift}
use Rattle.dcv_tracks.proofs.Standing.{neither}

-- ---- tests

none_of_both : (A : Type 0) (x y : Option A) → option_or x y ≡ None → (x ≡ None) × (y ≡ None)
none_of_both A None y is = (refl, is)
none_of_both A (Some x) y is = (is, absurd (some_is_none is))
  where
    some_is_none : Some x ≡ None → ⊥
    some_is_none e = true≢false (ap filled e)
      where
        filled : Option A → Bool
        filled None = false
        filled (Some x) = true

module _ (k : ℕ) where
  unbound_only : (bound : Bool) (at : ℕ) → (if bound then Some at else None) ≡ None → bound ≡ false
  unbound_only false at is = refl
  unbound_only true at is = absurd (true≢false (ap filled is))
    where
      filled : Option ℕ → Bool
      filled None = false
      filled (Some x) = true

  -- ---- inside a shift

  mutual
    unbound_within : (p : PlainTruth) → names_bound k p ≡ false → bound_in k p ≡ None
    unbound_within (TruthConstant truth) is = refl
    unbound_within (TruthSlot slot) is = refl
    unbound_within (TruthNot p) is = unbound_within p is
    unbound_within (TruthJoined connective operands) is = unbound_among operands is
    unbound_within (TruthShift direction p span) is = ap (λ (bound : Bool). if bound then Some span.start else None) is

    unbound_among : (operands : PlainTruths) → some_names_bound k operands ≡ false → first_bound k operands ≡ None
    unbound_among no_truths is = refl
    unbound_among (truth_operand p operands) is =
        let parts = neither (names_bound k p) (some_names_bound k operands) is in
        ap (λ found. option_or found (first_bound k operands)) (unbound_within p parts.0) ∙ unbound_among operands parts.1

  slot_below : (slot : ℕ) → nat_le k slot ≡ false → slot < k
  slot_below slot is = grind (arith, nat_tests)

  mutual
    -- then its slots are those of declared variables
    pub unbound_below : (p : PlainTruth) → names_bound k p ≡ false → IsBelow k p
    unbound_below (TruthConstant truth) is = tt
    unbound_below (TruthSlot slot) is = slot_below slot is
    unbound_below (TruthNot p) is = unbound_below p is
    unbound_below (TruthJoined connective operands) is = all_unbound_below operands is
    unbound_below (TruthShift direction p span) is = unbound_below p is

    all_unbound_below : (operands : PlainTruths) → some_names_bound k operands ≡ false → AreBelow k operands
    all_unbound_below no_truths is = tt
    all_unbound_below (truth_operand p operands) is =
        let parts = neither (names_bound k p) (some_names_bound k operands) is in
        (unbound_below p parts.0, all_unbound_below operands parts.1)

  -- ---- the list of shifts

  abbrev pub AreUnbound : List Shift → Type 0
  AreUnbound [] = Unit {0}
  AreUnbound (shift ∷ shifts) = (names_bound k shift.operand ≡ false) × AreUnbound shifts

  pub unbound_at : (shifts : List Shift) → AreUnbound shifts → (place : ℕ) (shift : Shift) → slice_get shifts place ≡ Some shift → names_bound k shift.operand ≡ false
  unbound_at [] u place shift is = absurd (true≢false (sym (ap filled is)))
    where
      filled : Option Shift → Bool
      filled None = false
      filled (Some x) = true
  unbound_at (first ∷ shifts) u zero shift is = ap (λ (one : Option Shift). bound_of one) (sym is) ∙ u.0
    where
      bound_of : Option Shift → Bool
      bound_of None = false
      bound_of (Some x) = names_bound k x.operand
  unbound_at (first ∷ shifts) u (suc place) shift is = unbound_at shifts u.1 place shift is

  unbound_more : (seen : List Shift) (shift : Shift) → AreUnbound seen → names_bound k shift.operand ≡ false → AreUnbound (seen ++ shift ∷ [])
  unbound_more [] shift u is = (is, tt)
  unbound_more (first ∷ seen) shift u is = (u.0, unbound_more seen shift u.1 is)

  unbound_added : (seen : List Shift) (shift : Shift) → AreUnbound seen → names_bound k shift.operand ≡ false → AreUnbound (with_shift seen shift)
  unbound_added seen shift u is = added (list_any (same_shift shift) seen)
    where
      added : (there : Bool) → AreUnbound (if there then seen else seen ++ shift ∷ [])
      added true = u
      added false = unbound_more seen shift u is

  mutual
    unbound_collected : (p : PlainTruth) (seen : List Shift) → bound_in k p ≡ None → AreUnbound seen → AreUnbound (collected seen p)
    unbound_collected (TruthConstant truth) seen is u = u
    unbound_collected (TruthSlot slot) seen is u = u
    unbound_collected (TruthNot p) seen is u = unbound_collected p seen is u
    unbound_collected (TruthJoined connective operands) seen is u = unbound_all operands seen is u
    unbound_collected (TruthShift direction p span) seen is u =
        let names = unbound_only (names_bound k p) span.start is in
        unbound_added (collected seen p) (record { direction = direction; operand = p; span = span }) (unbound_collected p seen (unbound_within p names) u) names

    unbound_all : (operands : PlainTruths) (seen : List Shift) → first_bound k operands ≡ None → AreUnbound seen → AreUnbound (all_collected seen operands)
    unbound_all no_truths seen is u = u
    unbound_all (truth_operand p operands) seen is u =
        let parts = none_of_both ℕ (bound_in k p) (first_bound k operands) is in
        unbound_all operands (collected seen p) parts.1 (unbound_collected p seen parts.0 u)

  unbound_form : (p : Option PlainTruth) (seen : List Shift) → bound_by k p ≡ None → AreUnbound seen → AreUnbound (collected_by seen p)
  unbound_form None seen is u = u
  unbound_form (Some p) seen is u = unbound_collected p seen is u

  unbound_goal : (core : CoreTree) (seen : List Shift) → bound_shift k core ≡ None → AreUnbound seen → AreUnbound (collected_of seen core)
  unbound_goal (CoreAtom basic span) seen is u = unbound_form (truth_in basic) seen is u
  unbound_goal (CoreNot d span) seen is u = unbound_goal d seen is u
  unbound_goal (CoreJoined connective c d span) seen is u =
      let parts = none_of_both ℕ (bound_shift k c) (bound_shift k d) is in
      unbound_goal d (collected_of seen c) parts.1 (unbound_goal c seen parts.0 u)
  unbound_goal (CoreChop c d span) seen is u =
      let parts = none_of_both ℕ (bound_shift k c) (bound_shift k d) is in
      unbound_goal d (collected_of seen c) parts.1 (unbound_goal c seen parts.0 u)
  unbound_goal (CoreStar d span) seen is u = unbound_goal d seen is u
  unbound_goal (CoreExists d span) seen is u = unbound_goal d seen is u

  pub shifts_unbound : (goal : CoreTree) → bound_shift k goal ≡ None → AreUnbound (shifts_in goal)
  shifts_unbound goal is = unbound_goal goal [] is tt
