-- A set of numbers as a list, beside the places at which they stand.
use Rattle.std.proofs.Common.{◌≡◌, ◌≢◌, inl, inr, ℕ, ◌<◌, ◌==◌, Bool, true, false, if◌then◌else◌, List, [], ◌∷◌, ◌++◌, length, get_or, set, eqb, Option, None, Some, slice_get, Contains, sym, ap, subst, ◌∙◌, arith}
use Rattle.std.specs.List.{IsDistinct}
use Rattle.std.specs.Option.{option_map_or, is_some}
use Rattle.std.proofs.lemmas.Bool.{cases_Bool, cases_lt, eqb-true, true≢false}
use Rattle.std.proofs.lemmas.Cmp.{nat_eq_equiv}
use Rattle.std.proofs.lemmas.List.{get_or-set_same, get_or-set_other, get_or_append_left, length_push}
use Rattle.std.proofs.Math.Seq.{get_or-append_seam}
use Rattle.std.proofs.lemmas.Option.{slice_get_within, slice_get-get_or, get_or_from_slice_get}
use Rattle.std.proofs.lemmas.Map.Keys.{IsDistinct-push}
use Rattle.std.proofs.lemmas.Map.Views.{list_any-from_Contains, Contains-from_any}
use Rattle.dcv_refinement.specs.SparseSet.{has, with_number, is_at, IsPlaceOf, StandAt}

-- ---- what is at a place

at_is : (found : Option ℕ) (number : ℕ) → option_map_or (λ one. one == number) found false ≡ true → found ≡ Some number
at_is None number e = absurd (true≢false (sym e))
at_is (Some one) number e = ap Some (eqb-true one number e)

at_place : (numbers : List ℕ) (place number : ℕ) → slice_get numbers place ≡ Some number → Contains numbers number
at_place numbers place number at = (place, slice_get_within numbers place number at, get_or_from_slice_get numbers place number number at)

pub there : (numbers : List ℕ) (place number : ℕ) → is_at numbers place number ≡ true → slice_get numbers place ≡ Some number
there numbers place number e = at_is (slice_get numbers place) number e

pub has_there : (numbers : List ℕ) (place number : ℕ) → slice_get numbers place ≡ Some number → has numbers number ≡ true
has_there numbers place number at = list_any-from_Contains nat_eq_equiv number numbers (at_place numbers place number at)

is_there : (numbers : List ℕ) (place number : ℕ) → slice_get numbers place ≡ Some number → is_at numbers place number ≡ true
is_there numbers place number at = ap (λ (found : Option ℕ). option_map_or (λ one. one == number) found false) at ∙ eq_itself number
  where
    eq_itself : (n : ℕ) → (n == n) ≡ true
    eq_itself n = nat_eq_equiv.refl n

module _ (numbers places : List ℕ) (stand : StandAt numbers places) (number : ℕ) where
  -- a number that is there stands at the place that is noted for it
  stands : has numbers number ≡ true → is_at numbers (get_or places number 0) number ≡ true
  stands h =
      let one = Contains-from_any eqb-true number numbers h in
      let at = slice_get-get_or numbers one.0 number one.1 ∙ ap Some one.2 in
      let is : get_or numbers one.0 0 ≡ number = get_or_from_slice_get numbers one.0 number 0 at in
      let noted : get_or places number 0 ≡ one.0 = ap (λ x. get_or places x 0) (sym is) ∙ stand one.0 one.1 in
      subst (λ place. is_at numbers place number ≡ true) (sym noted) (is_there numbers one.0 number at)

  pub absent : is_at numbers (get_or places number 0) number ≡ false → has numbers number ≡ false
  absent other = elim (cases_Bool (has numbers number)) [
    | inl found ↦ absurd (true≢false (sym (stands found) ∙ other))
    | inr gone ↦ gone
  ]

-- ---- one more

module _ (numbers old places : List ℕ) (number : ℕ) (stand : StandAt numbers old) (new : has numbers number ≡ false)
    (same : (at : ℕ) → get_or places at 0 ≡ get_or old at 0) (room : number < length places) where
  still : StandAt numbers places
  still place within = same (get_or numbers place 0) ∙ stand place within

  differs : (place : ℕ) → place < length numbers → get_or numbers place 0 ≢ number
  differs place within e = true≢false (sym (has_there numbers place number (slice_get-get_or numbers place 0 within ∙ ap Some e)) ∙ new)

  pub stand_more : StandAt (numbers ++ number ∷ []) (set places number (length numbers))
  stand_more place within = elim (cases_lt place (length numbers)) [
    | inl before ↦
        let at = get_or_append_left numbers (number ∷ []) 0 place before in
        ap (λ x. get_or (set places number (length numbers)) x 0) at
        ∙ get_or-set_other places number (get_or numbers place 0) (length numbers) 0 (differs place before)
        ∙ still place before
    | inr behind ↦
        let last : place ≡ length numbers = omega (arith, within, behind, length_push numbers number) in
        ap (λ place. get_or (set places number (length numbers)) (get_or (numbers ++ number ∷ []) place 0) 0) last
        ∙ ap (λ x. get_or (set places number (length numbers)) x 0) (get_or-append_seam numbers number [] 0)
        ∙ get_or-set_same places number (length numbers) 0 room
        ∙ sym last
  ]

pub once_more : (numbers : List ℕ) (number : ℕ) → IsDistinct eqb numbers → has numbers number ≡ false → IsDistinct eqb (numbers ++ number ∷ [])
once_more numbers number once new = IsDistinct-push nat_eq_equiv numbers number once new

pub last_is : (numbers : List ℕ) (number : ℕ) → slice_get (numbers ++ number ∷ []) (length numbers) ≡ Some number
last_is numbers number =
    slice_get-get_or (numbers ++ number ∷ []) (length numbers) 0 (omega (arith, length_push numbers number)) ∙ ap Some (get_or-append_seam numbers number [] 0)

pub with_old : (numbers : List ℕ) (number : ℕ) → has numbers number ≡ true → with_number numbers number ≡ numbers
with_old numbers number h = ap (λ (found : Bool). if found then numbers else numbers ++ number ∷ []) h

pub none_stand : (numbers places : List ℕ) → numbers ≡ [] → StandAt numbers places × IsDistinct eqb numbers
unfolding IsDistinct
none_stand numbers places none = (
  (λ place within. absurd (let none_there = subst (λ numbers. place < length numbers) none within in omega (arith, none_there))),
  subst (IsDistinct eqb) (sym none) tt,
)

pub place_tells : (numbers : List ℕ) (number : ℕ) (place : Option ℕ) → IsPlaceOf numbers number place → is_some place ≡ has numbers number
place_tells numbers number None is = sym is
place_tells numbers number (Some place) is = sym (has_there numbers place number is)
