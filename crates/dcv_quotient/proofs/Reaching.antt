-- The states that words reach in a machine, found one after another: all of them, where they are in a list or no more than a limit.
--     letters_or, each_or               something is so of all letters or members, or something else is found
--     each_letter_or, each_member_or    or of one it is not so
--     AllFound machine list             the list has all states that are reached, each once
--     found_within                      they are found where each is in some list
--     found_or_more                     or where there are no more than a limit; else there are more
use Rattle.std.proofs.Common.{◌≡◌, ◌≢◌, ◌⊎◌, inl, inr, ℕ, zero, suc, ◌+◌, ◌<◌, ◌≤◌, Bool, true, false, List, [], ◌∷◌, length, refl, sym, ap, ◌∙◌, subst, arith}
use Rattle.std.proofs.lemmas.Bool.{cases_lt}
use Rattle.dcv_language.specs.Automaton.{WorkingMachine, IsReached}
use Rattle.dcv_language.proofs.Ascending.{Member, Ascends}
use Rattle.dcv_language.proofs.Runs.{reached_has, start_is_reached, next_is_reached}

-- ---- searches

no_letter : (letter : List Bool) → length letter ≡ 0 → [] ≡ letter
no_letter [] none = refl
no_letter (value ∷ letter) none = absurd (omega arith)

pub letters_or : (k : ℕ) (P : List Bool → Type 0) (Q : Type 0) → ((letter : List Bool) → length letter ≡ k → P letter ⊎ Q)
    → ((letter : List Bool) → length letter ≡ k → P letter) ⊎ Q
letters_or zero P Q decide = elim (decide [] refl) [ inl holds ↦ inl (λ letter width. subst P (no_letter letter width) holds) | inr found ↦ inr found ]
letters_or (suc k) P Q decide =
    by (letters_or k (λ letter. P (false ∷ letter)) Q (λ letter width. decide (false ∷ letter) (omega arith)))
    (letters_or k (λ letter. P (true ∷ letter)) Q (λ letter width. decide (true ∷ letter) (omega arith)))
  where
    all : ((letter : List Bool) → length letter ≡ k → P (false ∷ letter)) → ((letter : List Bool) → length letter ≡ k → P (true ∷ letter))
        → (letter : List Bool) → length letter ≡ suc k → P letter
    all low high [] width = absurd (omega arith)
    all low high (false ∷ letter) width = low letter (omega arith)
    all low high (true ∷ letter) width = high letter (omega arith)

    by : (((letter : List Bool) → length letter ≡ k → P (false ∷ letter)) ⊎ Q) → (((letter : List Bool) → length letter ≡ k → P (true ∷ letter)) ⊎ Q)
        → ((letter : List Bool) → length letter ≡ suc k → P letter) ⊎ Q
    by (inr found) high = inr found
    by (inl low) (inr found) = inr found
    by (inl low) (inl high) = inl (all low high)

-- a letter of which it is not so
pub record SomeLetter (k : ℕ) (P : List Bool → Type 0) : Type 0 where
  pub letter : List Bool
  pub width : length letter ≡ k
  pub fails : P letter → ⊥

pub each_letter_or : (k : ℕ) (P : List Bool → Type 0) → ((letter : List Bool) → length letter ≡ k → P letter ⊎ (P letter → ⊥))
    → ((letter : List Bool) → length letter ≡ k → P letter) ⊎ SomeLetter k P
each_letter_or k P decide = letters_or k P (SomeLetter k P) (λ letter width. elim (decide letter width) [
  | inl holds ↦ inl holds
  | inr fails ↦ inr (record { letter = letter; width = width; fails = fails })
])

pub each_or : {X : Type 0} (P : X → Type 0) (Q : Type 0) (xs : List X) → ((x : X) → Member x xs → P x ⊎ Q) → ((x : X) → Member x xs → P x) ⊎ Q
each_or P Q [] decide = inl (λ x there. absurd there)
each_or {X} P Q (x ∷ xs) decide = by (decide x (inl refl)) (each_or P Q xs (λ y later. decide y (inr later)))
  where
    all : P x → ((y : X) → Member y xs → P y) → (y : X) → Member y (x ∷ xs) → P y
    all holds others y (inl same) = subst P (sym same) holds
    all holds others y (inr later) = others y later

    by : (P x ⊎ Q) → (((y : X) → Member y xs → P y) ⊎ Q) → ((y : X) → Member y (x ∷ xs) → P y) ⊎ Q
    by (inr found) others = inr found
    by (inl holds) (inr found) = inr found
    by (inl holds) (inl others) = inl (all holds others)

-- a member of which it is not so
pub record SomeMember {X : Type 0} (P : X → Type 0) (xs : List X) : Type 0 where
  pub one : X
  pub there : Member one xs
  pub fails : P one → ⊥

pub each_member_or : {X : Type 0} (P : X → Type 0) (xs : List X) → ((x : X) → Member x xs → P x ⊎ (P x → ⊥)) → ((x : X) → Member x xs → P x) ⊎ SomeMember P xs
each_member_or P xs decide = each_or P (SomeMember P xs) xs (λ x there. elim (decide x there) [
  | inl holds ↦ inl holds
  | inr fails ↦ inr (record { one = x; there = there; fails = fails })
])

-- ---- a list without one of its members

module _ {X : Type 0} where
  unfoldable pub without : (x : X) (xs : List X) → Member x xs → List X
  without x [] there = absurd there
  without x (y ∷ ys) (inl same) = ys
  without x (y ∷ ys) (inr later) = y ∷ without x ys later

  pub one_fewer : (x : X) (xs : List X) (there : Member x xs) → length xs ≡ suc (length (without x xs there))
  unfolding without
  one_fewer x [] there = absurd there
  one_fewer x (y ∷ ys) (inl same) = refl
  one_fewer x (y ∷ ys) (inr later) = ap suc (one_fewer x ys later)

  pub others_stay : (x : X) (xs : List X) (there : Member x xs) (other : X) → Member other xs → (other ≡ x → ⊥) → Member other (without x xs there)
  unfolding without
  others_stay x [] there other among differs = absurd there
  others_stay x (y ∷ ys) (inl same) other (inl here) differs = absurd (differs (here ∙ sym same))
  others_stay x (y ∷ ys) (inl same) other (inr among) differs = among
  others_stay x (y ∷ ys) (inr later) other (inl here) differs = inl here
  others_stay x (y ∷ ys) (inr later) other (inr among) differs = inr (others_stay x ys later other among differs)

  pub none_is_new : (x : X) (xs : List X) (there : Member x xs) (other : X) → Member other (without x xs there) → Member other xs
  unfolding without
  none_is_new x [] there other among = absurd there
  none_is_new x (y ∷ ys) (inl same) other among = inr among
  none_is_new x (y ∷ ys) (inr later) other (inl here) = inl here
  none_is_new x (y ∷ ys) (inr later) other (inr among) = inr (none_is_new x ys later other among)

-- ---- exploring

-- states that are reached, each once
pub record AreFound {S : Type 0} (machine : WorkingMachine S) (list : List S) : Type 0 where
  pub reached : (state : S) → Member state list → IsReached machine state
  pub once : Ascends (λ first second. first ≢ second) list

pub record AllFound {S : Type 0} (machine : WorkingMachine S) (list : List S) : Type 0 where
  pub found : AreFound machine list
  pub all : (state : S) → IsReached machine state → Member state list

module _ {S : Type 0} (machine : WorkingMachine S) (same_or_not : (a b : S) → (a ≡ b) ⊎ (a ≡ b → ⊥)) where
  member_or_not : (state : S) (list : List S) → Member state list ⊎ (Member state list → ⊥)
  member_or_not state [] = inr (λ there. there)
  member_or_not state (first ∷ list) = by (same_or_not state first) (member_or_not state list)
    where
      by : ((state ≡ first) ⊎ (state ≡ first → ⊥)) → (Member state list ⊎ (Member state list → ⊥)) → Member state (first ∷ list) ⊎ (Member state (first ∷ list) → ⊥)
      by (inl same) rest = inl (inl same)
      by (inr other) (inl later) = inl (inr later)
      by (inr other) (inr none) = inr (λ there. elim there [ inl same ↦ other same | inr later ↦ none later ])

  -- each step from the state leads into the list
  abbrev StaysIn : List S → S → Type 0
  StaysIn list state = (letter : List Bool) → length letter ≡ machine.slots → Member (machine.next state letter) list

  step_or_stays : (list : List S) (state : S) → StaysIn list state ⊎ SomeLetter machine.slots (λ letter. Member (machine.next state letter) list)
  step_or_stays list state = each_letter_or machine.slots (λ letter. Member (machine.next state letter) list) (λ letter width. member_or_not (machine.next state letter) list)

  stays_or_not : (list : List S) (state : S) → StaysIn list state ⊎ (StaysIn list state → ⊥)
  stays_or_not list state = elim (step_or_stays list state) [ inl stays ↦ inl stays | inr some ↦ inr (λ stays. some.fails (stays some.letter some.width)) ]

  -- a state that is reached and not in the list
  record NewState (list : List S) : Type 0 where
    state : S
    reached : IsReached machine state
    new : Member state list → ⊥

  one_new : (list : List S) → AreFound machine list → SomeMember (StaysIn list) list → NewState list
  one_new list found some = elim (step_or_stays list some.one) [
    | inl stays ↦ absurd (some.fails stays)
    | inr step ↦ record { state = machine.next some.one step.letter; reached = next_is_reached machine some.one step.letter step.width (found.reached some.one some.there); new = step.fails }
  ]

  -- all are in the list, or there is another one
  all_or_new : (list : List S) → AreFound machine list → Member machine.start list → AllFound machine list ⊎ NewState list
  all_or_new list found begins = elim (each_member_or (StaysIn list) list (λ state there. stays_or_not list state)) [
    | inl closed ↦ inl (record { found = found; all = reached_has machine (λ state. Member state list) begins (λ state letter width there. closed state there letter width) })
    | inr some ↦ inr (one_new list found some)
  ]

  with_new : (list : List S) → AreFound machine list → (new : NewState list) → AreFound machine (new.state ∷ list)
  with_new list found new = record {
    reached = λ state there. elim there [ inl same ↦ subst (IsReached machine) (sym same) new.reached | inr later ↦ found.reached state later ];
    once = ((λ other there same. new.new (subst (λ (state : S). Member state list) (sym same) there)), found.once);
  }

  first_found : AreFound machine (machine.start ∷ [])
  first_found = record {
    reached = λ state there. elim there [ inl same ↦ subst (IsReached machine) (sym same) (start_is_reached machine) | inr later ↦ absurd later ];
    once = ((λ other there. absurd there), tt);
  }

  -- ---- where each is in some list

  -- those that are left are in this list
  AreLeftIn : List S → List S → Type 0
  AreLeftIn left list = (state : S) → IsReached machine state → (Member state list → ⊥) → Member state left

  abbrev Found : Type 0
  Found = (list : List S) × AllFound machine list

  left_behind : (left list : List S) → AreLeftIn left list → (new : NewState list) → (there : Member new.state left) → AreLeftIn (without new.state left there) (new.state ∷ list)
  unfolding AreLeftIn
  left_behind left list among new there = λ state reached none.
      others_stay new.state left there state (among state reached (λ later. none (inr later))) (λ same. none (inl same))

  left_in : (left list : List S) → AreLeftIn left list → (new : NewState list) → Member new.state left
  unfolding AreLeftIn
  left_in left list among new = among new.state new.reached new.new

  one_step : (left list : List S) → AreLeftIn left list → AreFound machine list → Member machine.start list → AllFound machine list ⊎ NewState list
      → ((rest more : List S) → length rest < length left → AreLeftIn rest more → AreFound machine more → Member machine.start more → Found) → Found
  one_step left list among found begins (inl all) next = (list, all)
  one_step left list among found begins (inr new) next =
      let there = left_in left list among new in
      let sizes = one_fewer new.state left there in
      next (without new.state left there) (new.state ∷ list) (omega arith) (left_behind left list among new there) (with_new list found new) (inr begins)

  within_by : (most : ℕ) (left list : List S) → length left ≤ most → AreLeftIn left list → AreFound machine list → Member machine.start list → Found
  within_by zero left list fits among found begins =
      one_step left list among found begins (all_or_new list found begins) (λ rest more shorter. absurd (omega arith))
  within_by (suc most) left list fits among found begins =
      one_step left list among found begins (all_or_new list found begins) (λ rest more shorter. within_by most rest more (omega arith))

  pub found_within : (universe : List S) → ((state : S) → IsReached machine state → Member state universe) → Found
  unfolding AreLeftIn
  found_within universe among =
      within_by (length universe) universe (machine.start ∷ []) (omega arith) (λ state reached none. among state reached) first_found (inl refl)

  -- ---- where there are no more than a limit

  pub record MoreFound (limit : ℕ) : Type 0 where
    pub list : List S
    pub found : AreFound machine list
    pub more : limit < length list

  pub record FewFound (limit : ℕ) : Type 0 where
    pub list : List S
    pub all : AllFound machine list
    pub few : length list ≤ limit

  few_or_new : (limit : ℕ) (list : List S) → AreFound machine list → length list ≤ limit → AllFound machine list ⊎ NewState list
      → ((new : NewState list) → FewFound limit ⊎ MoreFound limit) → FewFound limit ⊎ MoreFound limit
  few_or_new limit list found few (inl all) next = inl (record { list = list; all = all; few = few })
  few_or_new limit list found few (inr new) next = next new

  limited_by : (left limit : ℕ) (list : List S) → limit < left + length list → AreFound machine list → Member machine.start list → FewFound limit ⊎ MoreFound limit
  limited_by zero limit list fits found begins = inr (record { list = list; found = found; more = omega arith })
  limited_by (suc left) limit list fits found begins = elim (cases_lt limit (length list)) [
    | inl more ↦ inr (record { list = list; found = found; more = more })
    | inr few ↦ few_or_new limit list found few (all_or_new list found begins)
        (λ new. limited_by left limit (new.state ∷ list) (omega arith) (with_new list found new) (inr begins))
  ]

  pub found_or_more : (limit : ℕ) → FewFound limit ⊎ MoreFound limit
  found_or_more limit = limited_by (suc limit) limit (machine.start ∷ []) (omega arith) first_found (inl refl)
