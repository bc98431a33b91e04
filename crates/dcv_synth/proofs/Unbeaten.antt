-- Held states are not beaten, and what is not beaten is held.
use Rattle.std.proofs.Common.{◌≡◌, ℕ, zero, suc, Bool, true, false, not, ◌&&◌, ◌||◌, List, [], ◌∷◌, length, refl, ap, sym, ◌∙◌}
use Rattle.std.proofs.lemmas.Bool.{true≢false, and_parts, and_from, or_from, not-true}
use Rattle.dcv_language.specs.Operations.{some_track}
use Rattle.dcv_language.specs.Automaton.{Automaton, accepts}
use Rattle.dcv_synth.specs.Tracks.{each_track}
use Rattle.dcv_synth.specs.Winning.{leads, is_answered, is_held, IsSafe, IsWin, is_lost, is_losing, is_beaten, output_of}
use Rattle.dcv_synth.specs.Laws.{HeldStatesAreNotBeaten, is_unbeaten, BeatsNoMore, UnbeatenStatesAreWin, UnbeatenStatesAreHeld}
use Rattle.dcv_synth.proofs.Tracks.{each-at, each-from, each-not, some-none, none-at, least-length, least-has}

module _ (n m : ℕ) (automaton : Automaton ℕ) where
  pub some_answer : (set : ℕ → Bool) (state : ℕ) (input : List Bool) → is_answered m automaton set state input ≡ true
      → set (leads automaton state input (output_of m automaton set state input)) ≡ true
  some_answer set state input e = least-has m (λ output. set (leads automaton state input output)) e

  -- an output that leads to a state which is not lost
  not_losing : (beaten : ℕ → Bool) (state : ℕ) (input output : List Bool) → length output ≡ m
      → automaton.accepting (leads automaton state input output) ≡ true → beaten (leads automaton state input output) ≡ false
      → is_losing m automaton beaten state input ≡ false
  not_losing beaten state input output width accepts not_beaten =
      let next = leads automaton state input output in
      each-not m (λ o. is_lost automaton beaten (leads automaton state input o)) output width
      (or_from (not (automaton.accepting next)) (beaten next) (ap not accepts) not_beaten)

  module _ (set : ℕ → Bool) (safe : IsSafe n m automaton set) where
    not_beaten : (bound state : ℕ) → is_held n m automaton set state ≡ true → is_beaten n m automaton bound state ≡ false
    not_beaten zero state held = refl
    not_beaten (suc bound) state held =
        some-none n (is_losing m automaton (is_beaten n m automaton bound) state)
        (λ input width.
        let answer = each-at n (is_answered m automaton set state) held input width in
        let output = output_of m automaton set state input in
        let next = leads automaton state input output in
        let there : set next ≡ true = some_answer set state input answer in
        not_losing (is_beaten n m automaton bound) state input output (least-length m (λ o. set (leads automaton state input o)))
        (safe.accepts next there) (not_beaten bound next (safe.held next there)))

  -- where not every output loses, some output leads to a state that accepts and is not beaten
  kept_from : (bound count : ℕ) (go : List Bool → ℕ)
      → each_track count (λ output. is_lost automaton (is_beaten n m automaton bound) (go output)) ≡ false → some_track count (λ output. is_unbeaten n m automaton bound (go output)) ≡ true
  kept_from bound zero go e = kept (automaton.accepting (go [])) (is_beaten n m automaton bound (go [])) e
    where
      kept : (a b : Bool) → (not a || b) ≡ false → (a && not b) ≡ true
      kept true true e = absurd (true≢false e)
      kept true false e = refl
      kept false b e = absurd (true≢false e)
  kept_from bound (suc count) go e =
      sides (each_track count (λ t. is_lost automaton (is_beaten n m automaton bound) (go (false ∷ t)))) (each_track count (λ t. is_lost automaton (is_beaten n m automaton bound) (go (true ∷ t))))
      (some_track count (λ t. is_unbeaten n m automaton bound (go (false ∷ t)))) (some_track count (λ t. is_unbeaten n m automaton bound (go (true ∷ t)))) e
      (kept_from bound count (λ t. go (false ∷ t))) (kept_from bound count (λ t. go (true ∷ t)))
    where
      sides : (a b c d : Bool) → (a && b) ≡ false → (a ≡ false → c ≡ true) → (b ≡ false → d ≡ true) → (c || d) ≡ true
      sides true true c d e f g = absurd (true≢false e)
      sides true false true d e f g = refl
      sides true false false d e f g = g refl
      sides false b true d e f g = refl
      sides false b false d e f g = absurd (true≢false (sym (f refl)))

  held_from : (bound state : ℕ) → is_beaten n m automaton (suc bound) state ≡ false → is_held n m automaton (is_unbeaten n m automaton bound) state ≡ true
  held_from bound state unbeaten =
      each-from n (is_answered m automaton (is_unbeaten n m automaton bound) state)
      (λ input width. kept_from bound m (leads automaton state input)
      (none-at n (is_losing m automaton (is_beaten n m automaton bound) state) unbeaten input width))

  unbeaten_is_win : (bound : ℕ) → BeatsNoMore n m automaton bound → IsWin n m automaton (is_unbeaten n m automaton bound)
  unbeaten_is_win bound stays =
      record {
        safe = record {
          accepts = λ state there. (parts state there).0;
          held = λ state there.
              let both = parts state there in
              held_from bound state (stays state both.0 ∙ not-true (is_beaten n m automaton bound state) both.1);
        };
        greatest = λ set safe state there.
            and_from (automaton.accepting state) (not (is_beaten n m automaton bound state)) (safe.accepts state there)
            (ap not (not_beaten set safe bound state (safe.held state there)));
      }
    where
      parts : (state : ℕ) → is_unbeaten n m automaton bound state ≡ true → (automaton.accepting state ≡ true) × (not (is_beaten n m automaton bound state) ≡ true)
      parts state there = and_parts (automaton.accepting state) (not (is_beaten n m automaton bound state)) there

pub held_states_are_not_beaten : HeldStatesAreNotBeaten
held_states_are_not_beaten n m automaton set bound state safe held = not_beaten n m automaton set safe bound state held

pub unbeaten_states_are_win : UnbeatenStatesAreWin
unbeaten_states_are_win n m automaton bound stays = unbeaten_is_win n m automaton bound stays

pub unbeaten_states_are_held : UnbeatenStatesAreHeld
unbeaten_states_are_held n m automaton bound state unbeaten = held_from n m automaton bound state unbeaten
