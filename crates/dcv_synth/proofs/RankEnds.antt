-- What a round adds to the states that are lost; where it adds none, all ranks are found.
use Rattle.std.proofs.Common.{◌≡◌, ℕ, suc, ◌-◌, ◌<◌, ltb, Bool, true, false, not, ◌&&◌, ◌||◌, List, length, map, get_or, Option, Some, None, is_none, Contains, inl, inr, refl, ap, sym, ◌∙◌, subst, arith}
use Rattle.std.specs.List.{range_with_len}
use Rattle.std.proofs.lemmas.Bool.{true≢false, ltb-true, ltb-false, or_right}
use Rattle.std.proofs.lemmas.List.FromFn.{get_or-map-range_with_len}
use Rattle.std.proofs.lemmas.List.{get_or_past}
use Rattle.dcv_language.specs.Automaton.{Automaton}
use Rattle.dcv_dfa.specs.Raw.{RawValue, IsRaw, automaton_of}
use Rattle.dcv_synth.specs.Winning.{is_lost, is_beaten, IsWin, is_held}
use Rattle.dcv_synth.specs.Laws.{is_unbeaten}
use Rattle.dcv_synth.specs.Ranked.{rank_at, IsRanked, AreRanked, win_by, IsRankedWithin, AreRankedWithin, lost_within, IsNew, AreNew}
use Rattle.dcv_synth.specs.declared.ranks.Ranked.{Ranked}
use Rattle.dcv_synth.proofs.Ranking.{beaten-more, beats_no_more, never, count_kept, fewer_kept, lost-more}
use Rattle.dcv_synth.proofs.Unbeaten.{unbeaten_states_are_win, unbeaten_states_are_held}

-- what is beaten no sooner than by one letter more is all that the next bound adds
module _ (n : ℕ) (raw : RawValue) (bound : ℕ) (beaten : List ℕ) (new : AreNew n (raw.arena.slots - n) (automaton_of raw) bound beaten) where
  abbrev m : ℕ
  m = raw.arena.slots - n

  abbrev automaton : Automaton ℕ
  automaton = automaton_of raw

  -- a state that is not among the new ones is lost where it was lost before
  pub stays_lost : (state : ℕ) → ¬ Contains beaten state → is_lost automaton (is_beaten n m automaton (suc bound)) state ≡ is_lost automaton (is_beaten n m automaton bound) state
  stays_lost state absent = by (automaton.accepting state) (is_beaten n m automaton (suc bound) state) (is_beaten n m automaton bound state) refl refl refl
    where
      by : (x a b : Bool) → automaton.accepting state ≡ x → is_beaten n m automaton (suc bound) state ≡ a → is_beaten n m automaton bound state ≡ b
          → (not x || a) ≡ (not x || b)
      by false a b e f g = refl
      by true true true e f g = refl
      by true false false e f g = refl
      by true true false e f g = absurd (absent ((new state).1 (record { accepts = e; beaten = f; not_before = g })))
      by true false true e f g = absurd (true≢false (sym (beaten-more n m automaton bound state g) ∙ f))

  -- where one is new, fewer states are kept
  pub fewer : (state : ℕ) → state < length raw.rows → Contains beaten state
      → count_kept (lost_within n m automaton (length raw.rows) (suc bound)) < count_kept (lost_within n m automaton (length raw.rows) bound)
  fewer state within there =
      elim (fewer_kept (is_lost automaton (is_beaten n m automaton bound)) (is_lost automaton (is_beaten n m automaton (suc bound)))
      (lost-more n m automaton (is_beaten n m automaton bound) (is_beaten n m automaton (suc bound)) (beaten-more n m automaton bound)) (range_with_len 0 (length raw.rows))) [
        | inl same ↦ absurd (apart same)
        | inr less ↦ less
      ]
    where
      is : IsNew n m automaton bound state
      is = (new state).0 there

      at : (f : ℕ → Bool) → get_or (map f (range_with_len 0 (length raw.rows))) state true ≡ f state
      at f = get_or-map-range_with_len f 0 (length raw.rows) state state true within (omega arith)

      apart : ¬ (lost_within n m automaton (length raw.rows) (suc bound) ≡ lost_within n m automaton (length raw.rows) bound)
      apart same =
          true≢false
          (sym (or_right (not (automaton.accepting state)) (is_beaten n m automaton (suc bound) state) is.beaten)
          ∙ sym (at (is_lost automaton (is_beaten n m automaton (suc bound)))) ∙ ap (λ list. get_or list state true) same ∙ at (is_lost automaton (is_beaten n m automaton bound))
          ∙ (λ i. not (is.accepts i) || is.not_before i))

  -- ---- the end: none is new

  module _ (raw_is : IsRaw raw) (next_ranks : List (Option Ranked)) (ranks_are : AreRankedWithin n m automaton (length raw.rows) (suc bound) next_ranks)
      (none : (state : ℕ) → ¬ Contains beaten state) where
    stays : (state : ℕ) → is_lost automaton (is_beaten n m automaton (suc bound)) state ≡ is_lost automaton (is_beaten n m automaton bound) state
    stays state = stays_lost state (none state)

    pub all_ranked : AreRanked n m automaton (length raw.rows) next_ranks
    all_ranked = record { count = ranks_are.count; each = λ state within. by state (rank_at next_ranks state) (ranks_are.each state within) }
      where
        by : (state : ℕ) (entry : Option Ranked) → IsRankedWithin n m automaton (suc bound) state entry → IsRanked n m automaton state entry
        by state None e = never n m automaton bound stays state e
        by state (Some ranked) is = is.1

    win_is : (state : ℕ) → is_unbeaten n m automaton bound state ≡ win_by automaton next_ranks state
    win_is state = by (ltb state (length raw.rows)) refl
      where
        entries : (accepting : Bool) (entry : Option Ranked) → automaton.accepting state ≡ accepting → IsRanked n m automaton state entry
            → (accepting && not (is_beaten n m automaton bound state)) ≡ (accepting && is_none entry)
        entries false entry a is = refl
        entries true None a is = ap not (is bound)
        entries true (Some ranked) a is = ranked_is (is_beaten n m automaton bound state) refl
          where
            ranked_is : (b : Bool) → is_beaten n m automaton bound state ≡ b → not (is_beaten n m automaton bound state) ≡ false
            ranked_is true e = ap not e
            ranked_is false e =
                absurd (true≢false (sym is.0.beaten ∙ never n m automaton bound stays state (beats_no_more n m automaton bound stays state a ∙ e) ranked.rank))

        by : (b : Bool) → ltb state (length raw.rows) ≡ b → is_unbeaten n m automaton bound state ≡ win_by automaton next_ranks state
        by true e = entries (automaton.accepting state) (rank_at next_ranks state) refl (all_ranked.each state (ltb-true state (length raw.rows) e))
        by false e =
            let past = ltb-false state (length raw.rows) e in
            let rejects : automaton.accepting state ≡ false = get_or_past raw.accepting state false (omega (arith, past, raw_is.flags)) in
            ap (λ a. a && not (is_beaten n m automaton bound state)) rejects ∙ sym (ap (λ a. a && is_none (rank_at next_ranks state)) rejects)

    pub all_won : IsWin n m automaton (win_by automaton next_ranks)
    all_won = subst (IsWin n m automaton) (λ i state. win_is state i) (unbeaten_states_are_win n m automaton bound (beats_no_more n m automaton bound stays))

    pub all_held : (state : ℕ) → state < length raw.rows → rank_at next_ranks state ≡ None → is_held n m automaton (win_by automaton next_ranks) state ≡ true
    all_held state within none =
        let unranked : IsRanked n m automaton state None = subst (IsRanked n m automaton state) none (all_ranked.each state within) in
        subst (λ (win : ℕ → Bool). is_held n m automaton win state ≡ true) (λ i s. win_is s i) (unbeaten_states_are_held n m automaton bound state (unranked (suc bound)))
