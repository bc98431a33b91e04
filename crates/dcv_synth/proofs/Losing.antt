-- Where further states are lost: what is forced changes at the places that lead to one of them alone, and children stand before their nodes.
use Rattle.std.proofs.Common.{◌≡◌, ◌≢◌, inl, inr, ℕ, zero, suc, ◌+◌, ◌<◌, ◌≤◌, ltb, Bool, true, false, ◌||◌, nat_eq, List, [], ◌∷◌, ◌++◌, length, drop, set, get_or, Contains, refl, ap, sym, ◌∙◌, subst, arith}
use Rattle.std.specs.Cmp.{unsigned_Decides}
use Rattle.std.specs.Ordering.{nat_cmp, is_lt}
use Rattle.std.specs.List.{list_any}
use Rattle.std.specs.List.Sorted.{IsSorted, IsPermutation}
use Rattle.std.proofs.lemmas.Bool.{cases_Bool, ltb-true, ltb-false, false≢true}
use Rattle.std.proofs.lemmas.List.{get_or-set_same, get_or-set_other, get_or_past, get_or-drop, length-drop, get_or_default, length-set}
use Rattle.std.proofs.lemmas.List.Elements.{Contains-append_cases}
use Rattle.std.proofs.lemmas.List.Sorted.{Contains-permutation}
use Rattle.std.proofs.lemmas.Map.Made.{is_member-Decides}
use Rattle.dcv_arena.specs.Arena.{ArenaValue, value_of}
use Rattle.dcv_arena.specs.declared.nodes.Ref.TheVariants.{Place}
use Rattle.dcv_synth.specs.Forced.{is_forced, lost_at, IsForced, AreForcedBefore, AreAllForced, AreForcedBut, HasLost, IsApart}
use Rattle.dcv_synth.proofs.Ranking.{or_none}

-- ---- lists

not_less : (a b : ℕ) → is_lt (nat_cmp b a) ≡ false → a ≤ b
not_less a b e = grind (arith, e)

rising : (xs : List ℕ) → IsSorted nat_cmp xs → (i k d : ℕ) → i + k < length xs → get_or xs i d ≤ get_or xs (i + k) d
rising xs sorted i zero d within = omega (arith, ap (λ j. get_or xs j d) (let e : i ≡ i + 0 = omega arith in e))
rising xs sorted i (suc k) d within =
    let next : i + k + 1 ≡ i + suc k = omega arith in
    let step = not_less (get_or xs (i + k) d) (get_or xs (i + k + 1) d) (sorted (i + k) d (omega arith) (omega (arith, within))) in
    omega (arith, rising xs sorted i k d (omega (arith, within)), step, ap (λ j. get_or xs j d) next)

-- what is before the first of those that are left is not among them
pub before_the_rest : (xs : List ℕ) → IsSorted nat_cmp xs → (i d place : ℕ) → i < length xs → place < get_or xs i d → ¬ Contains (drop i xs) place
before_the_rest xs sorted i d place within before there =
    let at = get_or-drop i xs there.0 place ∙ (let e : i + there.0 ≡ i + there.0 = refl in refl) in
    let long : i + there.0 < length xs = omega (arith, there.1, length-drop i xs) in
    omega (arith, before, rising xs sorted i there.0 d long, sym at ∙ there.2, get_or_default xs (i + there.0) d place long)

-- ---- states

-- so far, where these are left
pub record IsLosing (old : List Bool) (states : List ℕ) (now : List Bool) (rest : List ℕ) : Type 0 where
  pub count : length now ≡ length old
  pub each : (state : ℕ) → (lost_at now state || list_any (nat_eq state) rest) ≡ (lost_at old state || list_any (nat_eq state) states)

-- ---- places

-- where no letter leads to one of the states, what is forced stays as it is
pub still_forced : (n : ℕ) (arena : ArenaValue) (old new : List Bool) (states : List ℕ) (place : ℕ) (is : Bool) → HasLost old states new
    → IsApart arena (length old) states place → IsForced n arena old (Place place) is → IsForced n arena new (Place place) is
still_forced n arena old new states place is has apart forced front count size level =
    (λ i. is_forced n (length front) count (λ values. same (front ++ values) i)) ∙ forced front count size level
  where
    same : (letter : List Bool) → lost_at new (value_of arena (Place place) letter) ≡ lost_at old (value_of arena (Place place) letter)
    same letter = by (ltb (value_of arena (Place place) letter) (length old)) refl
      where
        state : ℕ
        state = value_of arena (Place place) letter

        none : Bool → Type 0
        none b = (lost_at old state || b) ≡ lost_at old state

        by : (b : Bool) → ltb state (length old) ≡ b → lost_at new state ≡ lost_at old state
        by true e =
            let absent : list_any (nat_eq state) states ≡ false =
            elim (cases_Bool (list_any (nat_eq state) states)) [
              | inl there ↦ absurd (apart letter (ltb-true state (length old) e) ((is_member-Decides unsigned_Decides states state).0 there))
              | inr absent ↦ absent
            ] in
            has.each state ∙ ap (λ b. lost_at old state || b) absent ∙ or_none (lost_at old state)
        by false e =
            let past = ltb-false state (length old) e in
            get_or_past new state true (omega (arith, past, has.count)) ∙ sym (get_or_past old state true past)

-- at first it is so of all places but those that are to be looked at
pub forced_but : (n : ℕ) (arena : ArenaValue) (old new forced : List Bool) (states above places : List ℕ) → HasLost old states new → AreAllForced n arena old forced
    → ((place : ℕ) → place < length arena.nodes → ¬ Contains above place → IsApart arena (length old) states place) → IsPermutation above places
    → AreForcedBut places n arena new forced
forced_but n arena old new forced states above places has are apart same = record {
  places = are.places;
  each = λ place within absent.
      still_forced n arena old new states place (get_or forced place false) has
      (apart place within (λ there. absent (Contains-permutation above places place same there))) (are.each place within);
}

no_other : (other place : ℕ) → other ≢ place → ¬ Contains (place ∷ []) other
no_other other place differ (zero, within, is) = differ (sym is)
no_other other place differ (suc k, within, is) = omega (arith, within)

pub one_forced : (n : ℕ) (arena : ArenaValue) (lost forced new : List Bool) (place : ℕ) (rest : List ℕ) (is : Bool) → place < length arena.nodes
    → AreForcedBut (place ∷ rest) n arena lost forced → IsForced n arena lost (Place place) is → new ≡ set forced place is → AreForcedBut rest n arena lost new
one_forced n arena lost forced new place rest is within are here so =
    subst (AreForcedBut rest n arena lost) (sym so) (record { places = length-set forced place is ∙ are.places; each = λ other below absent. by other below absent (nat_eq other place) refl })
  where
    by : (other : ℕ) → other < length arena.nodes → ¬ Contains rest other → (b : Bool) → nat_eq other place ≡ b
        → IsForced n arena lost (Place other) (get_or (set forced place is) other false)
    by other below absent true e =
        let same : place ≡ other = sym ((unsigned_Decides other place).0 e) in
        subst (λ at. IsForced n arena lost (Place at) (get_or (set forced place is) at false)) same
        (subst (IsForced n arena lost (Place place)) (sym (get_or-set_same forced place is false (omega (arith, within, are.places)))) here)
    by other below absent false e =
        let differ : other ≢ place = λ same. false≢true (sym e ∙ (unsigned_Decides other place).1 same) in
        subst (IsForced n arena lost (Place other)) (sym (get_or-set_other forced place other is false differ))
        (are.each other below (λ there. elim (Contains-append_cases (place ∷ []) rest other there) [
          | inl first ↦ no_other other place differ first
          | inr later ↦ absent later
        ]))

-- of those before the first that is left it is known
pub known_before : (n : ℕ) (arena : ArenaValue) (lost forced : List Bool) (places : List ℕ) (i d : ℕ) → IsSorted nat_cmp places → i < length places
    → get_or places i d < length arena.nodes → AreForcedBut (drop i places) n arena lost forced → AreForcedBefore (get_or places i d) n arena lost forced
known_before n arena lost forced places i d sorted within below are place before =
    are.each place (omega (arith, before, below)) (before_the_rest places sorted i d place within before)
