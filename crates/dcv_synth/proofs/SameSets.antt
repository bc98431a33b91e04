-- Who wins depends on the behaviours of the set alone, and the listed moves beat every controller.
use Rattle.std.proofs.Common.{◌≡◌, ℕ, zero, suc, ◌+◌, ◌<◌, Bool, List, [], ◌∷◌, ◌++◌, length, sym, ◌∙◌, arith, length-append}
use Rattle.dcv_word.specs.Behaviour.{Word, IsBehaviour}
use Rattle.dcv_language.proofs.Behaviours.{Widths, Widths-append, Widths-cons, Widths-head, Widths-tail, one_letter}
use Rattle.dcv_synth.specs.Game.{Controller, Environment, HasWidth, joined_after, joined, play_after, play}
use Rattle.dcv_synth.specs.Laws.{LeastMovesBeat, StrategiesBeat, WinsOverSameBehaviours, BeatsOverSameBehaviours}
use Rattle.dcv_synth.proofs.Listed.{listed_moves_so}

pub strategies_beat : LeastMovesBeat → StrategiesBeat
strategies_beat least n m automaton strategy is = least n m automaton _ strategy.bound (listed_moves_so n m automaton strategy.moves.items is.moves) is.bound

-- inputs with one more
more_inputs : (n : ℕ) (before : List (List Bool)) (input : List Bool) → Widths n before → length input ≡ n → IsBehaviour n (before ++ input ∷ [])
more_inputs n before input w wide = record {
  nonempty = omega (arith, length-append before (input ∷ []));
  widths = Widths-append n before (input ∷ []) w (one_letter n input wide);
}

none : (k : ℕ) → Widths k []
none k = λ i d h. absurd (omega (arith, h))

module _ (n m : ℕ) (controller : Controller) (has : HasWidth n m controller) where
  -- what a controller makes of inputs is a behaviour
  joined-widths : (before inputs : List (List Bool)) → Widths n before → Widths n inputs → Widths (n + m) (joined_after controller before inputs)
  joined-widths before [] w ws = none (n + m)
  joined-widths before (input ∷ inputs) w ws =
      let so_far = before ++ input ∷ [] in
      let wide = Widths-head n input inputs ws in
      let all = more_inputs n before input w wide in
      let out = has so_far all in
      Widths-cons (n + m) (input ++ controller so_far) (joined_after controller so_far inputs) (omega (arith, length-append input (controller so_far), wide, out))
      (joined-widths so_far inputs all.widths (Widths-tail n input inputs ws))

  joined-behaves : (inputs : List (List Bool)) → IsBehaviour n inputs → IsBehaviour (n + m) (joined controller inputs)
  joined-behaves [] is = absurd (omega (arith, is.nonempty))
  joined-behaves (input ∷ inputs) is = record { nonempty = omega arith; widths = joined-widths [] (input ∷ inputs) (none n) is.widths }

  -- and so is a play
  play-widths : (environment : Environment) → ((letters : Word) → length (environment letters) ≡ n) → (before : List (List Bool)) (letters : Word) (count : ℕ)
      → Widths n before → Widths (n + m) (play_after environment controller before letters count)
  play-widths environment w before letters zero ws = none (n + m)
  play-widths environment w before letters (suc count) ws =
      let so_far = before ++ environment letters ∷ [] in
      let letter = environment letters ++ controller so_far in
      let wide = w letters in
      let all = more_inputs n before (environment letters) ws wide in
      let out = has so_far all in
      Widths-cons (n + m) letter (play_after environment controller so_far (letters ++ letter ∷ []) count)
      (omega (arith, length-append (environment letters) (controller so_far), wide, out)) (play-widths environment w so_far (letters ++ letter ∷ []) count all.widths)

  play-behaves : (environment : Environment) → ((letters : Word) → length (environment letters) ≡ n) → (count : ℕ) → 0 < count
      → IsBehaviour (n + m) (play environment controller count)
  play-behaves environment w zero some = absurd (omega arith)
  play-behaves environment w (suc count) some = record { nonempty = omega arith; widths = play-widths environment w [] [] (suc count) (none n) }

pub wins_over_same_behaviours : WinsOverSameBehaviours
wins_over_same_behaviours n m L M controller same wins = record {
  width = wins.width;
  wins = λ inputs is. sym (same (joined controller inputs) (joined-behaves n m controller wins.width inputs is)) ∙ wins.wins inputs is;
}

pub beats_over_same_behaviours : BeatsOverSameBehaviours
beats_over_same_behaviours n m L M environment bound same beats = record {
  width = beats.width;
  beats = λ controller has.
      let beaten = beats.beats controller has in
      record {
        count = beaten.count;
        some = beaten.some;
        within = beaten.within;
        outside = sym (same (play environment controller beaten.count) (play-behaves n m controller has environment beats.width beaten.count beaten.some)) ∙ beaten.outside;
      };
}
