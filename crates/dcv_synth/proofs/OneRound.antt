-- One round: the states that are looked at get their ranks, and those that are not have none to get.
use Rattle.std.proofs.Common.{◌≡◌, ◌≢◌, ◌⊎◌, inl, inr, ℕ, zero, suc, ◌<◌, Bool, true, false, nat_eq, List, [], ◌∷◌, ◌++◌, length, Option, Some, None, Contains, refl, sym, ◌∙◌, subst, arith}
use Rattle.std.specs.Cmp.{unsigned_Decides}
use Rattle.std.specs.List.{list_any}
use Rattle.std.proofs.lemmas.Bool.{true≢false, false≢true}
use Rattle.std.proofs.lemmas.List.Elements.{Contains-push, Contains-append_left, Contains-append_cases}
use Rattle.std.proofs.lemmas.Map.Made.{is_member-Decides}
use Rattle.dcv_language.specs.Automaton.{Automaton}
use Rattle.dcv_synth.specs.Winning.{is_beaten}
use Rattle.dcv_synth.specs.Ranked.{rank_at, IsRankedWithin, AreRankedWithin, IsNew, AreNew, AreUnranked, IsDecided, IsJustNew}
use Rattle.dcv_synth.specs.declared.ranks.Ranked.{Ranked}

module _ (n m : ℕ) (automaton : Automaton ℕ) (states bound : ℕ) where
  abbrev beaten_at : ℕ → ℕ → Bool
  beaten_at = is_beaten n m automaton

  -- a state is looked at already, or is among those that are left and has what it had
  abbrev IsHalfway : List (Option Ranked) → List ℕ → ℕ → Type 0
  IsHalfway ranks left state =
      IsRankedWithin n m automaton (suc bound) state (rank_at ranks state) ⊎ (Contains left state × IsRankedWithin n m automaton bound state (rank_at ranks state))

  pub record IsRound (ranks : List (Option Ranked)) (beaten left : List ℕ) : Type 0 where
    pub count : length ranks ≡ states
    pub each : (state : ℕ) → state < states → IsHalfway ranks left state
    pub only : (state : ℕ) → Contains beaten state → IsNew n m automaton bound state
    pub all : (state : ℕ) → state < states → IsNew n m automaton bound state → Contains beaten state ⊎ (Contains left state × (rank_at ranks state ≡ None))

  unranked : (state : ℕ) (entry : Option Ranked) → IsRankedWithin n m automaton bound state entry → beaten_at bound state ≡ false → entry ≡ None
  unranked state None is e = refl
  unranked state (Some ranked) is e = absurd (true≢false (sym is.0 ∙ e))

  -- where one letter more beats it no more than the bound does, it has the same entry
  same_entry : (state : ℕ) (entry : Option Ranked) → beaten_at (suc bound) state ≡ beaten_at bound state → IsRankedWithin n m automaton bound state entry
      → IsRankedWithin n m automaton (suc bound) state entry
  same_entry state None e is = e ∙ is
  same_entry state (Some ranked) e is = (e ∙ is.0, is.1)

  pub round_begins : (ranks : List (Option Ranked)) (looked : List ℕ) → AreRankedWithin n m automaton states bound ranks → AreUnranked n m automaton states bound looked
      → IsRound ranks [] looked
  round_begins ranks looked are others = record {
    count = are.count;
    each = λ state within. by state within (list_any (nat_eq state) looked) refl;
    only = λ state there. absurd (omega (arith, there.1));
    all = λ state within new. new_there state within new (list_any (nat_eq state) looked) refl;
  }
    where
      there : (state : ℕ) → list_any (nat_eq state) looked ≡ true → Contains looked state
      there state = (is_member-Decides unsigned_Decides looked state).0

      absent : (state : ℕ) → list_any (nat_eq state) looked ≡ false → ¬ Contains looked state
      absent state e is = false≢true (sym e ∙ (is_member-Decides unsigned_Decides looked state).1 is)

      by : (state : ℕ) → state < states → (b : Bool) → list_any (nat_eq state) looked ≡ b → IsHalfway ranks looked state
      by state within true e = inr (there state e, are.each state within)
      by state within false e = inl (same_entry state (rank_at ranks state) (others state within (absent state e)) (are.each state within))

      new_there : (state : ℕ) → state < states → IsNew n m automaton bound state → (b : Bool) → list_any (nat_eq state) looked ≡ b
          → Contains [] state ⊎ (Contains looked state × (rank_at ranks state ≡ None))
      new_there state within new true e = inr (there state e, unranked state (rank_at ranks state) (are.each state within) new.not_before)
      new_there state within new false e = absurd (true≢false (sym new.beaten ∙ others state within (absent state e) ∙ new.not_before))

  -- what is known of the state that is looked at
  pub decided : (ranks : List (Option Ranked)) (beaten left : List ℕ) (state : ℕ) → IsRound ranks beaten left → state < states → IsDecided n m automaton bound state (rank_at ranks state)
  decided ranks beaten left state is within =
      elim (is.each state within) [
        | inl later ↦ inl later
        | inr now ↦ inr now.1
      ]

  -- it is the first of those that are left
  behind : (one : ℕ) (rest : List ℕ) (state : ℕ) → state ≢ one → Contains (one ∷ rest) state → Contains rest state
  behind one rest state differ (zero, within, is) = absurd (differ (sym is))
  behind one rest state differ (suc k, within, is) = (k, omega (arith, within), is)

  module _ (old new : List (Option Ranked)) (beaten rest : List ℕ) (one : ℕ) (is : IsRound old beaten (one ∷ rest)) (within : one < states)
      (count : length new ≡ length old) (others : (other : ℕ) → other ≢ one → rank_at new other ≡ rank_at old other)
      (own : IsRankedWithin n m automaton (suc bound) one (rank_at new one)) where
    each_after : (state : ℕ) → state < states → (b : Bool) → nat_eq state one ≡ b → IsHalfway new rest state
    each_after state below true e =
        let same : one ≡ state = sym ((unsigned_Decides state one).0 e) in
        inl (subst (λ at. IsRankedWithin n m automaton (suc bound) at (rank_at new at)) same own)
    each_after state below false e =
        let differ : state ≢ one = λ same. false≢true (sym e ∙ (unsigned_Decides state one).1 same) in
        subst (λ entry. IsRankedWithin n m automaton (suc bound) state entry ⊎ (Contains rest state × IsRankedWithin n m automaton bound state entry)) (sym (others state differ))
        (elim (is.each state below) [
          | inl later ↦ inl later
          | inr now ↦ inr (behind one rest state differ now.0, now.1)
        ])

    -- it is not new
    pub round_passes : (IsJustNew n m automaton bound one (rank_at old one) → ⊥) → IsRound new beaten rest
    round_passes not_new = record {
      count = count ∙ is.count;
      each = λ state below. each_after state below (nat_eq state one) refl;
      only = is.only;
      all = λ state below new_is.
          elim (is.all state below new_is) [
            | inl there ↦ inl there
            | inr left ↦ by state (nat_eq state one) refl new_is left
          ];
    }
      where
        by : (state : ℕ) (b : Bool) → nat_eq state one ≡ b → IsNew n m automaton bound state → Contains (one ∷ rest) state × (rank_at old state ≡ None)
            → Contains beaten state ⊎ (Contains rest state × (rank_at new state ≡ None))
        by state true e new_is left =
            let same : state ≡ one = (unsigned_Decides state one).0 e in
            absurd (not_new (subst (λ at. IsJustNew n m automaton bound at (rank_at old at)) same (record { accepts = new_is.accepts; beaten = new_is.beaten; unranked = left.1 })))
        by state false e new_is left =
            let differ : state ≢ one = λ same. false≢true (sym e ∙ (unsigned_Decides state one).1 same) in
            inr (behind one rest state differ left.0, others state differ ∙ left.1)

    -- it is
    pub round_adds : IsJustNew n m automaton bound one (rank_at old one) → beaten_at bound one ≡ false → IsRound new (beaten ++ one ∷ []) rest
    round_adds just not_before = record {
      count = count ∙ is.count;
      each = λ state below. each_after state below (nat_eq state one) refl;
      only = λ state there.
          elim (Contains-append_cases beaten (one ∷ []) state there) [
            | inl before ↦ is.only state before
            | inr last ↦ new_one state last
          ];
      all = λ state below new_is.
          elim (is.all state below new_is) [
            | inl there ↦ inl (Contains-append_left beaten (one ∷ []) state there)
            | inr left ↦ by state (nat_eq state one) refl left
          ];
    }
      where
        new_one : (state : ℕ) → Contains (one ∷ []) state → IsNew n m automaton bound state
        new_one state (zero, below, same) = subst (IsNew n m automaton bound) same (record { accepts = just.accepts; beaten = just.beaten; not_before = not_before })
        new_one state (suc k, below, same) = absurd (omega (arith, below))

        by : (state : ℕ) (b : Bool) → nat_eq state one ≡ b → Contains (one ∷ rest) state × (rank_at old state ≡ None)
            → Contains (beaten ++ one ∷ []) state ⊎ (Contains rest state × (rank_at new state ≡ None))
        by state true e left =
            let same : one ≡ state = sym ((unsigned_Decides state one).0 e) in
            inl (subst (Contains (beaten ++ one ∷ [])) same (Contains-push beaten one))
        by state false e left =
            let differ : state ≢ one = λ same. false≢true (sym e ∙ (unsigned_Decides state one).1 same) in
            inr (behind one rest state differ left.0, others state differ ∙ left.1)

  pub round_ends : (ranks : List (Option Ranked)) (beaten : List ℕ) → IsRound ranks beaten [] → ((state : ℕ) → automaton.accepting state ≡ true → state < states)
      → AreRankedWithin n m automaton states (suc bound) ranks × AreNew n m automaton bound beaten
  round_ends ranks beaten is accepting_are = (
    record {
      count = is.count;
      each = λ state within.
          elim (is.each state within) [
            | inl later ↦ later
            | inr now ↦ absurd (omega (arith, now.0.1))
          ];
    },
    λ state. (
      is.only state,
      λ new.
          elim (is.all state (accepting_are state new.accepts) new) [
            | inl there ↦ there
            | inr left ↦ absurd (omega (arith, left.0.1))
          ],
    ),
  )
