-- The controller of least outputs wins.
use Rattle.std.proofs.Common.{◌≡◌, ◌⊎◌, inl, inr, ⊎_elim, ℕ, ◌<◌, Bool, true, List, [], ◌∷◌, ◌++◌, length, fold, refl, ap, sym, ◌∙◌, arith}
use Rattle.std.proofs.lemmas.List.Sums.{fold_push}
use Rattle.dcv_word.specs.Behaviour.{Word, IsBehaviour}
use Rattle.dcv_language.specs.Automaton.{Automaton, state_from, accepts}
use Rattle.dcv_language.proofs.Behaviours.{Widths, Widths-head, Widths-tail}
use Rattle.dcv_synth.specs.Game.{Controller, joined_after, joined}
use Rattle.dcv_synth.specs.Winning.{leads, is_answered, is_held, IsSafe}
use Rattle.dcv_synth.specs.Play.{Step, controller_of, answer_of, IsStartOr, AnswersSo}
use Rattle.dcv_synth.specs.Laws.{LeastOutputsWin}
use Rattle.dcv_synth.proofs.Unbeaten.{some_answer}
use Rattle.dcv_synth.proofs.Tracks.{each-at, least-length}

module _ (n m : ℕ) (automaton : Automaton ℕ) (win : ℕ → Bool) (step : Step) (safe : IsSafe n m automaton win) (so : AnswersSo n m automaton win step) where
  abbrev one : ℕ × List Bool → List Bool → ℕ × List Bool
  one before input = step before.0 input

  -- the state and the output after these inputs
  abbrev after : List (List Bool) → ℕ × List Bool
  after inputs = fold one (automaton.start, []) inputs

  abbrev controller : Controller
  controller = controller_of automaton.start step

  after_one_more : (before : List (List Bool)) (input : List Bool) (state : ℕ) → (after before).0 ≡ state → IsStartOr automaton win state → length input ≡ n
      → after (before ++ input ∷ []) ≡ answer_of m automaton win state input
  after_one_more before input state at from width = fold_push one (automaton.start, []) before input ∙ ap (λ s. step s input) at ∙ so state input from width

  -- each input of a state that is held has its least output, which leads into the set
  stays_in : (state : ℕ) (input : List Bool) → is_held n m automaton win state ≡ true → length input ≡ n → win (answer_of m automaton win state input).0 ≡ true
  stays_in state input held width = some_answer n m automaton win state input (each-at n (is_answered m automaton win state) held input width)

  in_win : (inputs before : List (List Bool)) (state : ℕ) → (after before).0 ≡ state → IsStartOr automaton win state → Widths n inputs
      → is_held n m automaton win state ≡ true → 0 < length inputs
      → win (state_from automaton state (joined_after controller before inputs)) ≡ true
  in_win [] before state at from w held some = absurd (omega arith)
  in_win (input ∷ inputs) before state at from w held some =
      let width = Widths-head n input inputs w in
      let so_far = before ++ input ∷ [] in
      let answered = after_one_more before input state at from width in
      let next : automaton.next state (input ++ controller so_far) ≡ (answer_of m automaton win state input).0 = ap (λ s. leads automaton state input s.1) answered in
      let there : win (automaton.next state (input ++ controller so_far)) ≡ true = ap win next ∙ stays_in state input held width in
      goes_on inputs so_far (automaton.next state (input ++ controller so_far)) there
      (in_win inputs so_far (automaton.next state (input ++ controller so_far)) (ap (λ s. s.0) answered ∙ sym next) (inr there) (Widths-tail n input inputs w)
      (safe.held (automaton.next state (input ++ controller so_far)) there))
    where
      goes_on : (others so_far : List (List Bool)) (next : ℕ) → win next ≡ true
          → (0 < length others → win (state_from automaton next (joined_after controller so_far others)) ≡ true)
          → win (state_from automaton next (joined_after controller so_far others)) ≡ true
      goes_on [] so_far next there more = there
      goes_on (other ∷ others) so_far next there more = more (omega arith)

  wide_after : (inputs : List (List Bool)) (before : ℕ × List Bool) → IsStartOr automaton win before.0 → is_held n m automaton win before.0 ≡ true
      → Widths n inputs → (0 < length inputs) ⊎ (length before.1 ≡ m) → length (fold one before inputs).1 ≡ m
  wide_after [] before from held w last = ⊎_elim (λ some. absurd (omega (arith, some))) (λ e. e) last
  wide_after (input ∷ inputs) before from held w last =
      let width = Widths-head n input inputs w in
      let answered = so before.0 input from width in
      let there : win (step before.0 input).0 ≡ true = ap (λ s. win s.0) answered ∙ stays_in before.0 input held width in
      wide_after inputs (step before.0 input) (inr there) (safe.held (step before.0 input).0 there) (Widths-tail n input inputs w)
      (inr (ap (λ s. length s.1) answered ∙ least-length m (λ output. win (leads automaton before.0 input output))))

  accepted : is_held n m automaton win automaton.start ≡ true → (inputs : Word) → IsBehaviour n inputs → accepts automaton (joined controller inputs) ≡ true
  accepted held [] b = absurd (omega (arith, b.nonempty))
  accepted held (input ∷ inputs) b =
      safe.accepts (state_from automaton automaton.start (joined controller (input ∷ inputs)))
      (in_win (input ∷ inputs) [] automaton.start refl (inl refl) b.widths held (omega arith))

pub least_outputs_win : LeastOutputsWin
least_outputs_win n m automaton win step safe held so = record {
  width = λ inputs b. wide_after n m automaton win step safe so inputs (automaton.start, []) (inl refl) held b.widths (inl b.nonempty);
  wins = accepted n m automaton win step safe so held;
}
