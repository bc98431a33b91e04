-- Where names stand in a list of names that differ.
use Rattle.std.proofs.Common.{◌≡◌, ℕ, zero, suc, ◌+◌, ◌<◌, Bool, true, false, not, cond, List, [], ◌∷◌, length, get_or, refl, sym, ap, subst, ◌∙◌, arith}
use Rattle.std.specs.Prelude.{bytes_eq}
use Rattle.std.specs.List.{position_or_len}
use Rattle.std.proofs.lemmas.Bool.{both_ways, or_left, or_right, false_from_ne_true}
use Rattle.dcv_observer.specs.Naming.{is_among, AreDistinct}
use Rattle.dcv_observer.proofs.Naming.{Name, is_itself, one_name}
use Rattle.dcv_replay.proofs.Mirrors.{IsApart}

pub among_at : (names : List Name) (place : ℕ) → place < length names → is_among names (get_or names place []) ≡ true
among_at [] place below = absurd (omega arith)
among_at (name ∷ names) zero below = or_left _ _ (is_itself name)
among_at (name ∷ names) (suc place) below = or_right (bytes_eq (get_or names place []) name) _ (among_at names place (omega arith))

pub apart_places : (names : List Name) → AreDistinct names → IsApart names
apart_places [] distinct p q p_below q_below same = absurd (omega arith)
apart_places (name ∷ names) distinct zero zero p_below q_below same = refl
apart_places (name ∷ names) distinct zero (suc q) p_below q_below same =
    absurd (both_ways (is_among names name) distinct.0
    (subst (λ n. is_among names n ≡ true) (sym (one_name name (get_or names q []) same)) (among_at names q (omega arith))))
apart_places (name ∷ names) distinct (suc p) zero p_below q_below same =
    absurd (both_ways (is_among names name) distinct.0
    (subst (λ n. is_among names n ≡ true) (one_name (get_or names p []) name same) (among_at names p (omega arith))))
apart_places (name ∷ names) distinct (suc p) (suc q) p_below q_below same = ap suc (apart_places names distinct.1 p q (omega arith) (omega arith) same)

pub position_at : (names : List Name) → AreDistinct names → (place : ℕ) → place < length names → position_or_len (bytes_eq (get_or names place [])) names ≡ place
position_at [] distinct place below = absurd (omega arith)
position_at (name ∷ names) distinct zero below =
    ap (λ (b : Bool). cond (not b) (1 + position_or_len (bytes_eq name) names) 0) (is_itself name)
position_at (name ∷ names) distinct (suc place) below =
    let differ : bytes_eq (get_or names place []) name ≡ false = false_from_ne_true (bytes_eq (get_or names place []) name) (λ same.
    both_ways (is_among names name) distinct.0 (subst (λ n. is_among names n ≡ true) (one_name (get_or names place []) name same) (among_at names place (omega arith)))) in
    ap (λ (b : Bool). cond (not b) (1 + position_or_len (bytes_eq (get_or names place [])) names) 0) differ
    ∙ ap (λ (n : ℕ). 1 + n) (position_at names distinct.1 place (omega arith))
    ∙ (let e : 1 + place ≡ suc place = omega arith in e)
