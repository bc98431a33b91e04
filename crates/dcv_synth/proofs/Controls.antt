-- The diagrams of least outputs describe a controller that wins, and then the start has no rank.
use Rattle.std.proofs.Common.{◌≡◌, ℕ, ◌<◌, ltb, eqb, Bool, true, false, List, length, get_or, Some, Contains, refl, ap, sym, ◌∙◌, subst, arith}
use Rattle.std.specs.Prelude.{slice_get}
use Rattle.std.specs.List.{position_or_len}
use Rattle.std.proofs.lemmas.Bool.{true≢false, ltb-true, ltb-false, eqb-true, eq-eqb}
use Rattle.std.proofs.lemmas.List.Sums.{fails_before_first, passes_at_first}
use Rattle.std.proofs.lemmas.Option.{slice_get-get_or}
use Rattle.dcv_word.specs.Letter.{letter_of, bits_of}
use Rattle.dcv_word.proofs.Bits.{letter_of-bits_of}
use Rattle.dcv_language.specs.Automaton.{Automaton, accepts}
use Rattle.dcv_synth.specs.Game.{Wins}
use Rattle.dcv_synth.specs.Winning.{leads}
use Rattle.dcv_synth.specs.Play.{controller_of, answer_of, AnswersSo}
use Rattle.dcv_synth.specs.Control.{ControlValue, IsControlOf, step_of}
use Rattle.dcv_synth.specs.Laws.{ControlsWin, NotBothAreRight}
use Rattle.dcv_synth.proofs.LeastOutputs.{least_outputs_win}
use Rattle.dcv_synth.proofs.Tracks.{least-length}
use Rattle.dcv_synth.proofs.Unbeaten.{held_states_are_not_beaten}

-- a state is found where the list has it
found : (states : List ℕ) (state : ℕ) → Contains states state → slice_get states (position_or_len (eqb state) states) ≡ Some state
found states state (place, within, at) =
    slice_get-get_or states first 0 inside ∙ ap Some (sym (eqb-true state (get_or states first 0) (passes_at_first (eqb state) states 0 inside)))
  where
    first : ℕ
    first = position_or_len (eqb state) states

    by : (b : Bool) → ltb place first ≡ b → first < length states
    by true e = absurd (true≢false (sym (eq-eqb state (get_or states place state) (sym at)) ∙ fails_before_first (eqb state) states place state (ltb-true place first e)))
    by false e = omega (arith, within, ltb-false place first e)

    inside : first < length states
    inside = by (ltb place first) refl

module _ (n m : ℕ) (automaton : Automaton ℕ) (control : ControlValue) (is : IsControlOf n m automaton control) where
  answers_so : AnswersSo n m automaton is.realisable.win (step_of m control)
  answers_so state input from width =
      let at = found control.states state ((is.states state).1 from) in
      let place = position_or_len (eqb state) control.states in
      let output = (answer_of m automaton is.realisable.win state input).1 in
      let wide : length output ≡ m = least-length m (λ o. is.realisable.win (leads automaton state input o)) in
      let digits : letter_of m (bits_of output) ≡ output = ap (λ k. letter_of k (bits_of output)) (sym wide) ∙ letter_of-bits_of output in
      let next = is.next.values place state input at width in
      let letter = ap (letter_of m) (is.output.values place state input at width) ∙ digits in
      λ i. (next i, letter i)

pub controls_win : ControlsWin
controls_win n m automaton control starts is =
    subst (λ start. Wins n m (accepts automaton) (controller_of start (step_of m control))) starts
    (least_outputs_win n m automaton is.realisable.win (step_of m control) is.realisable.greatest.safe is.realisable.held (answers_so n m automaton control is))

pub not_both_are_right : NotBothAreRight
not_both_are_right n m automaton strategy can cannot =
    true≢false (sym cannot.bound.beaten
    ∙ held_states_are_not_beaten n m automaton can.win strategy.bound automaton.start can.greatest.safe can.held)
