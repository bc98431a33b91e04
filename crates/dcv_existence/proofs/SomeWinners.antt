-- One of the two sides wins, from the states of an automaton of which only those below a number accept.
--     some_winner      the start can be held for ever, or it has a rank
--     some_moves       where it has a rank there are the moves of all states, in order
use Rattle.std.proofs.Common.{◌≡◌, ◌⊎◌, inl, inr, ℕ, zero, suc, ◌+◌, ◌<◌, ◌≤◌, Bool, true, false, not, ◌&&◌, List, [], ◌∷◌, length, length-append, Option, Some, None, refl, ap, sym, ◌∙◌, subst, arith}
use Rattle.std.specs.Prelude.{if◌then◌else◌}
use Rattle.std.proofs.lemmas.Bool.{true≢false, and_parts, and_from, cases_Bool, cases_lt, cases_eq}
use Rattle.dcv_language.specs.Automaton.{Automaton}
use Rattle.dcv_synth.specs.Winning.{is_beaten, IsRank, move_of}
use Rattle.dcv_synth.specs.Realisable.{IsRealisable}
use Rattle.dcv_synth.specs.Moves.{AreMoves}
use Rattle.dcv_synth.specs.Listing.{AreMovesBelow, IsMoveAt, with_move}
use Rattle.dcv_synth.specs.Laws.{HeldStatesAreNotBeaten, UnbeatenStatesAreWin, UnbeatenStatesAreHeld, is_unbeaten, BeatsNoMore}
use Rattle.dcv_synth.specs.declared.strategy.Move.{Move}
use Rattle.dcv_synth.proofs.Listed.{none_listed, listed_more, all_listed}
use Rattle.dcv_synth.proofs.Ranking.{unbeaten-before}

-- ---- how many numbers below one have a property

how_many : (ℕ → Bool) → ℕ → ℕ
how_many p zero = 0
how_many p (suc count) = (if p count then 1 else 0) + how_many p count

record AreSame (p q : ℕ → Bool) (count : ℕ) : Type 0 where
  each : (number : ℕ) → number < count → p number ≡ q number
  as_many : how_many p count ≡ how_many q count

-- where fewer numbers may have the other, it is the same for all of them, or fewer have it
same_or_fewer : (p q : ℕ → Bool) → ((number : ℕ) → q number ≡ true → p number ≡ true) → (count : ℕ) → AreSame p q count ⊎ (how_many q count < how_many p count)
unfolding how_many
same_or_fewer p q less zero = inl (record { each = λ number within. absurd (omega arith); as_many = refl })
same_or_fewer p q less (suc count) = by (p count) (q count) refl refl (less count) (same_or_fewer p q less count)
  where
    one_more : p count ≡ q count → AreSame p q count → AreSame p q (suc count)
    one_more here same = record {
      each = λ number within. elim (cases_lt number count) [
        | inl before ↦ same.each number before
        | inr from ↦ let last : count ≡ number = omega arith in subst (λ k. p k ≡ q k) last here
      ];
      as_many = λ i. (if here i then 1 else 0) + same.as_many i;
    }

    by : (a b : Bool) → p count ≡ a → q count ≡ b → (b ≡ true → a ≡ true) → AreSame p q count ⊎ (how_many q count < how_many p count)
        → AreSame p q (suc count) ⊎ ((if q count then 1 else 0) + how_many q count < (if p count then 1 else 0) + how_many p count)
    by true true e f more (inl same) = inl (one_more (e ∙ sym f) same)
    by false false e f more (inl same) = inl (one_more (e ∙ sym f) same)
    by false true e f more rest = absurd (true≢false (sym (more refl)))
    by true true e f more (inr fewer) = inr (rw (e, f) (omega (arith, fewer)))
    by false false e f more (inr fewer) = inr (rw (e, f) (omega (arith, fewer)))
    by true false e f more (inl same) = inr (rw (e, f) (let same_count = same.as_many in omega arith))
    by true false e f more (inr fewer) = inr (rw (e, f) (omega (arith, fewer)))

module _ (n m : ℕ) (automaton : Automaton ℕ) where
  abbrev beaten : ℕ → ℕ → Bool
  beaten = is_beaten n m automaton

  sooner : (bound state : ℕ) → beaten (suc bound) state ≡ false → beaten bound state ≡ false
  sooner bound state e = unbeaten-before n m automaton (suc bound) bound state (omega arith) e

  -- ---- ranks

  some_rank : (bound state : ℕ) → beaten bound state ≡ true → (rank : ℕ) × IsRank n m automaton state rank
  some_rank zero state e = absurd (true≢false (sym e))
  some_rank (suc bound) state e = by (some_rank bound state) (cases_Bool (beaten bound state))
    where
      by : (beaten bound state ≡ true → (rank : ℕ) × IsRank n m automaton state rank) → (beaten bound state ≡ true) ⊎ (beaten bound state ≡ false)
          → (rank : ℕ) × IsRank n m automaton state rank
      by sooner (inl is) = sooner is
      by sooner (inr not) = (suc bound, record { beaten = e; least = λ other before. unbeaten-before n m automaton bound other state (omega arith) not })

  -- ---- a bound after which no more is beaten

  abbrev kept : ℕ → ℕ → Bool
  kept = is_unbeaten n m automaton

  kept_sooner : (bound state : ℕ) → kept (suc bound) state ≡ true → kept bound state ≡ true
  kept_sooner bound state e =
      let both = and_parts (automaton.accepting state) (not (beaten (suc bound) state)) e in
      and_from (automaton.accepting state) (not (beaten bound state)) both.0 (ap not (sooner bound state (not_true (beaten (suc bound) state) both.1)))
    where
      not_true : (b : Bool) → not b ≡ true → b ≡ false
      not_true true is = absurd (true≢false (sym is))
      not_true false is = refl

  same_where_kept : (bound state : ℕ) → kept bound state ≡ kept (suc bound) state → automaton.accepting state ≡ true → beaten (suc bound) state ≡ beaten bound state
  same_where_kept bound state same accepts = by (automaton.accepting state) (beaten bound state) (beaten (suc bound) state) accepts same
    where
      by : (x a b : Bool) → x ≡ true → (x && not a) ≡ (x && not b) → b ≡ a
      by true true true is e = refl
      by true true false is e = absurd (true≢false (sym e))
      by true false true is e = absurd (true≢false e)
      by true false false is e = refl
      by false a b is e = absurd (true≢false (sym is))

  module _ (states : ℕ) (rejects : (state : ℕ) → states ≤ state → automaton.accepting state ≡ false) where
    -- a bound after which one letter more beats no further state that accepts
    record HasEnd : Type 0 where
      bound : ℕ
      stays : BeatsNoMore n m automaton bound

    no_more : (bound : ℕ) → ((state : ℕ) → state < states → kept bound state ≡ kept (suc bound) state) → BeatsNoMore n m automaton bound
    no_more bound same state accepts = elim (cases_lt state states) [
      | inl within ↦ same_where_kept bound state (same state within) accepts
      | inr past ↦ absurd (true≢false (sym accepts ∙ rejects state past))
    ]

    -- each bound keeps fewer states, or is the last
    end_within : (rounds bound : ℕ) → how_many (kept bound) states < rounds → HasEnd
    end_within zero bound few = absurd (omega arith)
    end_within (suc rounds) bound few = by (end_within rounds (suc bound)) (same_or_fewer (kept bound) (kept (suc bound)) (kept_sooner bound) states)
      where
        by : (how_many (kept (suc bound)) states < rounds → HasEnd) → AreSame (kept bound) (kept (suc bound)) states ⊎ (how_many (kept (suc bound)) states < how_many (kept bound) states) → HasEnd
        by later (inl same) = record { bound = bound; stays = no_more bound same.each }
        by later (inr fewer) = later (omega arith)

    some_end : HasEnd
    some_end = end_within (suc (how_many (kept 0) states)) 0 (omega arith)

    -- ---- who wins

    module _ (not_beaten : HeldStatesAreNotBeaten) (win : UnbeatenStatesAreWin) (held : UnbeatenStatesAreHeld) where
      pub some_winner : IsRealisable n m automaton ⊎ ((rank : ℕ) × IsRank n m automaton automaton.start rank)
      some_winner = elim (cases_Bool (beaten (suc some_end.bound) automaton.start)) [
        | inl is ↦ inr (some_rank (suc some_end.bound) automaton.start is)
        | inr unbeaten ↦ inl (record {
          win = kept some_end.bound;
          greatest = win n m automaton some_end.bound some_end.stays;
          held = held n m automaton some_end.bound automaton.start unbeaten;
        })
      ]

      -- ---- the moves

      ranked_or_never : (state : ℕ) → automaton.accepting state ≡ true
          → ((rank : ℕ) × IsRank n m automaton state rank) ⊎ ((rank : ℕ) → IsRank n m automaton state rank → ⊥)
      ranked_or_never state accepts = elim (cases_Bool (beaten some_end.bound state)) [
        | inl is ↦ inl (some_rank some_end.bound state is)
        | inr unbeaten ↦
            let safe = (win n m automaton some_end.bound some_end.stays).safe in
            let there = and_from (automaton.accepting state) (not (beaten some_end.bound state)) accepts (ap not unbeaten) in
            inr (λ rank is. true≢false (sym is.beaten ∙ not_beaten n m automaton (kept some_end.bound) rank state safe (safe.held state there)))
      ]

      module _ (rank : ℕ) (starts : IsRank n m automaton automaton.start rank) where
        abbrev move_with : ℕ → ℕ → Move
        move_with state other = record { state = state; rank = other; input = move_of n m automaton other state }

        -- the move of a state, or that it has none
        move_at : (state : ℕ) → (found : Option Move) × IsMoveAt n m automaton state found
        move_at state = elim (cases_eq state automaton.start) [
          | inl same ↦ (
            Some (move_with state rank),
            (record { from = inl same; ranked = subst (λ s. IsRank n m automaton s rank) (sym same) starts; least = refl }, refl),
          )
          | inr other ↦ by other (cases_Bool (automaton.accepting state))
        ]
          where
            ranked : automaton.accepting state ≡ true → ((one : ℕ) × IsRank n m automaton state one) ⊎ ((one : ℕ) → IsRank n m automaton state one → ⊥)
                → (found : Option Move) × IsMoveAt n m automaton state found
            ranked accepts (inl (one, is)) = (Some (move_with state one), (record { from = inr accepts; ranked = is; least = refl }, refl))
            ranked accepts (inr never) = (None, λ move at is. never move.rank (subst (λ s. IsRank n m automaton s move.rank) at is.ranked))

            by : (state ≡ automaton.start → ⊥) → (automaton.accepting state ≡ true) ⊎ (automaton.accepting state ≡ false)
                → (found : Option Move) × IsMoveAt n m automaton state found
            by other (inl accepts) = ranked accepts (ranked_or_never state accepts)
            by other (inr not) = (
              None,
              λ move at is. elim is.from [
                | inl same ↦ other (sym at ∙ same)
                | inr accepts ↦ true≢false (sym accepts ∙ ap automaton.accepting at ∙ not)
              ],
            )

        record SomeMoves (count : ℕ) : Type 0 where
          moves : List Move
          are : AreMovesBelow n m automaton count moves
          few : length moves ≤ count

        no_more_than : (moves : List Move) (found : Option Move) → length (with_move moves found) ≤ suc (length moves)
        no_more_than moves None = omega arith
        no_more_than moves (Some move) = omega (arith, length-append moves (move ∷ []))

        next : (count : ℕ) → count + 1 ≡ suc count
        next count = omega arith

        moves_below : (count : ℕ) → SomeMoves count
        moves_below zero = record { moves = []; are = none_listed n m automaton; few = omega arith }
        moves_below (suc count) =
            let first = moves_below count in
            let found = move_at count in
            record {
              moves = with_move first.moves found.0;
              are = subst (λ states. AreMovesBelow n m automaton states (with_move first.moves found.0)) (next count) (listed_more n m automaton count first.moves found.0 first.are found.1);
              few = let upto = first.few in let more = no_more_than first.moves found.0 in omega arith;
            }

        pub some_moves : automaton.start < states → (moves : List Move) × (AreMoves n m automaton moves × (length moves ≤ states))
        some_moves within = let all = moves_below states in (all.moves, (all_listed n m automaton states all.moves within rejects all.are, all.few))
