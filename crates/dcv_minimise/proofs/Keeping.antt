-- The states that are kept: all of the start and the first states of the classes, or without the start where a class has its row.
use Rattle.std.proofs.Common.{◌≡◌, ℕ, suc, ◌+◌, ◌<◌, true, false, List, length, get_or, set, drop, remove, Option, None, Some, refl, sym, ◌∙◌, subst, arith}
use Rattle.std.specs.List.{All}
use Rattle.std.proofs.lemmas.List.Elements.{All-cons, All-map}
use Rattle.dcv_dfa.specs.Raw.{RawValue}
use Rattle.dcv_minimise.specs.Classes.{HasFirsts, firsts_of, IsFirstLike, AreKept}

-- the start and the first states are states
pub firsts_inside : (blocks states : List ℕ) (bound start : ℕ) (list : List ℕ) → HasFirsts blocks states (length states) start list → start < bound → All (λ state. state < bound) states
    → All (λ state. state < bound) list
firsts_inside blocks states bound start list has start_inside all = subst (All (λ state. state < bound)) (sym has.are)
    (All-cons (λ state. state < bound) start (firsts_of states has.places) start_inside
    (All-map (λ state. state < bound) (λ place. get_or states place 0) has.places (λ k d within. all (get_or has.places k d) 0 (has.firsts.within k d within))))

module _ (raw : RawValue) (blocks states list : List ℕ) (has : HasFirsts blocks states (length states) raw.start list) where
  like : (place : Option ℕ) → IsFirstLike raw blocks (get_or list 0 0) (drop 1 list) place → IsFirstLike raw blocks raw.start (firsts_of states has.places) place
  like place first = subst (λ l. IsFirstLike raw blocks (get_or l 0 0) (drop 1 l) place) has.are first

  pub kept_alone : IsFirstLike raw blocks (get_or list 0 0) (drop 1 list) None → AreKept raw blocks states list true
  kept_alone others = record { places = has.places; firsts = has.firsts; shared = None; first = like None others; are = has.are; stands = refl }

  pub kept_shared : (place own : ℕ) (after : List ℕ) → IsFirstLike raw blocks (get_or list 0 0) (drop 1 list) (Some place)
      → own ≡ get_or list (place + 1) 0 → after ≡ set (remove list (place + 1)) 0 own → AreKept raw blocks states after false
  kept_shared place own after first is_own is_after =
      let next : place + 1 ≡ suc place = omega arith in
      let is : own ≡ get_or (firsts_of states has.places) place 0 = is_own ∙ (λ i. get_or (has.are i) (next i) 0) in
      record {
        places = has.places;
        firsts = has.firsts;
        shared = Some place;
        first = like (Some place) first;
        are = is_after ∙ (λ i. set (remove (has.are i) (next i)) 0 (is i));
        stands = refl;
      }
