-- Sets of states as ascending lists.
use Rattle.std.proofs.Common.{◌≡◌, inl, inr, ⊎_elim, ℕ, ◌<◌, ◌≤◌, Bool, true, false, cond, ltb, eqb, ◌||◌, List, [], ◌∷◌, refl, ap, sym, ◌∙◌, subst, lt_trans, arith}
use Rattle.std.specs.List.{list_any}
use Rattle.std.proofs.lemmas.Bool.{ltb-true, ltb-false, eqb-true, eqb-false}
use Rattle.dcv_language.specs.StateSet.{insert_state, set_of}
use Rattle.dcv_language.specs.MachineLaws.{SetAscends, SetHasTheListed, SetIsOne}
use Rattle.dcv_language.proofs.Ascending.{Member, Ascends, Member-from_IsAmong, IsAmong-from_Member, Ascends-from_pairs, pairs_from_Ascends, one_ascending}

-- ---- what some state of a set has

swapped : (a b c : Bool) → (a || (b || c)) ≡ (b || (a || c))
swapped true true c = refl
swapped true false c = refl
swapped false b c = refl

repeated : (a c : Bool) → (a || c) ≡ (a || (a || c))
repeated true c = refl
repeated false c = refl

module _ (p : ℕ → Bool) where
  inserted_by : (state first : ℕ) (others : List ℕ) (less equal : Bool) → (equal ≡ true → state ≡ first) → list_any p (insert_state state others) ≡ (p state || list_any p others)
      → list_any p (cond less (state ∷ first ∷ others) (cond equal (first ∷ others) (first ∷ insert_state state others))) ≡ (p state || (p first || list_any p others))
  inserted_by state first others true equal e ih = refl
  inserted_by state first others false true e ih = repeated (p first) (list_any p others) ∙ ap (λ s. p s || (p first || list_any p others)) (sym (e refl))
  inserted_by state first others false false e ih = ap (λ b. p first || b) ih ∙ swapped (p first) (p state) (list_any p others)

  pub list_any-insert_state : (state : ℕ) (set : List ℕ) → list_any p (insert_state state set) ≡ (p state || list_any p set)
  list_any-insert_state state [] = refl
  list_any-insert_state state (first ∷ others) =
      inserted_by state first others (ltb state first) (eqb state first) (eqb-true state first) (list_any-insert_state state others)

  pub list_any-set_of : (states : List ℕ) → list_any p (set_of states) ≡ list_any p states
  list_any-set_of [] = refl
  list_any-set_of (state ∷ states) = list_any-insert_state state (set_of states) ∙ ap (λ b. p state || b) (list_any-set_of states)

pub set_has_the_listed : SetHasTheListed
set_has_the_listed = list_any-set_of

-- ---- ascending

-- what is in a set with one more state
inserted_members : (z state first : ℕ) (others : List ℕ) (less equal : Bool) → (equal ≡ true → state ≡ first)
    → (Member z (insert_state state others) → Member z (state ∷ others))
    → Member z (cond less (state ∷ first ∷ others) (cond equal (first ∷ others) (first ∷ insert_state state others))) → Member z (state ∷ first ∷ others)
inserted_members z state first others true equal e ih m = m
inserted_members z state first others false true e ih m = inr m
inserted_members z state first others false false e ih (inl f) = inr (inl f)
inserted_members z state first others false false e ih (inr m) = ⊎_elim (λ f. inl f) (λ n. inr (inr n)) (ih m)

members_inserted : (z state first : ℕ) (others : List ℕ) (less equal : Bool) → (equal ≡ true → state ≡ first)
    → (Member z (state ∷ others) → Member z (insert_state state others))
    → Member z (state ∷ first ∷ others) → Member z (cond less (state ∷ first ∷ others) (cond equal (first ∷ others) (first ∷ insert_state state others)))
members_inserted z state first others true equal e ih m = m
members_inserted z state first others false true e ih (inl f) = inl (f ∙ e refl)
members_inserted z state first others false true e ih (inr m) = m
members_inserted z state first others false false e ih (inl f) = inr (ih (inl f))
members_inserted z state first others false false e ih (inr (inl f)) = inl f
members_inserted z state first others false false e ih (inr (inr m)) = inr (ih (inr m))

from_inserted : (z state : ℕ) (set : List ℕ) → Member z (insert_state state set) → Member z (state ∷ set)
from_inserted z state [] m = m
from_inserted z state (first ∷ others) m =
    inserted_members z state first others (ltb state first) (eqb state first) (eqb-true state first) (from_inserted z state others) m

to_inserted : (z state : ℕ) (set : List ℕ) → Member z (state ∷ set) → Member z (insert_state state set)
to_inserted z state [] m = m
to_inserted z state (first ∷ others) m =
    members_inserted z state first others (ltb state first) (eqb state first) (eqb-true state first) (to_inserted z state others) m

abbrev Below : ℕ → ℕ → Type 0
Below x y = x < y

inserted_ascends : (state first : ℕ) (others : List ℕ) (less equal : Bool) → (less ≡ true → state < first) → (less ≡ false → first ≤ state) → (equal ≡ false → state ≡ first → ⊥)
    → Ascends Below (first ∷ others) → Ascends Below (insert_state state others)
    → Ascends Below (cond less (state ∷ first ∷ others) (cond equal (first ∷ others) (first ∷ insert_state state others)))
inserted_ascends state first others true equal l g n a ih =
    ((λ y m. ⊎_elim (λ e. subst (λ z. state < z) (sym e) (l refl)) (λ k. lt_trans (l refl) (a.0 y k)) m), a)
inserted_ascends state first others false true l g n a ih = a
inserted_ascends state first others false false l g n a ih =
    let above : first < state = omega (arith, g refl, n refl) in
    ((λ y m. ⊎_elim (λ e. subst (λ z. first < z) (sym e) above) (λ k. a.0 y k) (from_inserted y state others m)), ih)

insert_ascends : (state : ℕ) (set : List ℕ) → Ascends Below set → Ascends Below (insert_state state set)
insert_ascends state [] a = ((λ y m. absurd m), tt)
insert_ascends state (first ∷ others) a =
    inserted_ascends state first others (ltb state first) (eqb state first) (ltb-true state first) (ltb-false state first) (eqb-false state first) a (insert_ascends state others a.1)

ascends : (states : List ℕ) → Ascends Below (set_of states)
ascends [] = tt
ascends (state ∷ states) = insert_ascends state (set_of states) (ascends states)

pub set_ascends : SetAscends
set_ascends states = pairs_from_Ascends Below (set_of states) (ascends states)

from_set : (z : ℕ) (states : List ℕ) → Member z (set_of states) → Member z states
from_set z [] m = m
from_set z (state ∷ states) m = ⊎_elim (λ e. inl e) (λ n. inr (from_set z states n)) (from_inserted z state (set_of states) m)

to_set : (z : ℕ) (states : List ℕ) → Member z states → Member z (set_of states)
to_set z [] m = m
to_set z (state ∷ states) (inl e) = to_inserted z state (set_of states) (inl e)
to_set z (state ∷ states) (inr m) = to_inserted z state (set_of states) (inr (to_set z states m))

pub set_is_one : SetIsOne
set_is_one set states pairs same =
    one_ascending Below (λ x h. absurd (omega arith)) (λ x y h k. absurd (omega arith)) set (set_of states) (Ascends-from_pairs Below set pairs) (ascends states)
    (λ z m. to_set z states (Member-from_IsAmong states z ((same z).0 (IsAmong-from_Member set z m))))
    (λ z m. Member-from_IsAmong set z ((same z).1 (IsAmong-from_Member states z (from_set z states m))))
