-- How both play by the states of an automaton: a controller as a machine whose state is one of them, an environment by a table of moves.
--     controller_of start step               the controller that begins in this state and goes on by these steps
--     answer_of m automaton win state input  the least output that leads into the set, beside the state to which it leads
--     AnswersSo n m automaton win step       the steps are so from the start and from each state of the set
--     environment_of automaton moves         the environment whose next input is the move of the state that the letters lead to
--     MovesSo n m automaton moves            each move is the least input, at the start and at each accepting state that has a rank
use Rattle.std.specs.Prelude.{◌≡◌, ◌⊎◌, ℕ, Bool, List, [], length, fold, IsTrue}
use Rattle.dcv_language.specs.Automaton.{Automaton, state_after}
use Rattle.dcv_synth.specs.Game.{Controller, Environment}
use Rattle.dcv_synth.specs.Winning.{leads, IsRank, move_of, output_of}

-- from a state, by an input, to the next state and the output
abbrev pub Step : Type 0
Step = ℕ → List Bool → ℕ × List Bool

abbrev pub controller_of : ℕ → Step → Controller
controller_of start step inputs = (fold (λ (before : ℕ × List Bool) (input : List Bool). step before.0 input) (start, []) inputs).1

abbrev pub answer_of : ℕ → Automaton ℕ → (ℕ → Bool) → Step
answer_of m automaton win state input =
    let output = output_of m automaton win state input in
    (leads automaton state input output, output)

abbrev pub IsStartOr : Automaton ℕ → (ℕ → Bool) → ℕ → Type 0
IsStartOr automaton set state = (state ≡ automaton.start) ⊎ IsTrue (set state)

abbrev pub AnswersSo : ℕ → ℕ → Automaton ℕ → (ℕ → Bool) → Step → Type 0
AnswersSo n m automaton win step = (state : ℕ) (input : List Bool) → IsStartOr automaton win state → length input ≡ n
    → step state input ≡ answer_of m automaton win state input

abbrev pub environment_of : Automaton ℕ → (ℕ → List Bool) → Environment
environment_of automaton moves letters = moves (state_after automaton letters)

pub record MovesSo (n m : ℕ) (automaton : Automaton ℕ) (moves : ℕ → List Bool) : Type 0 where
  pub width : (state : ℕ) → length (moves state) ≡ n
  pub least : (state rank : ℕ) → IsStartOr automaton automaton.accepting state → IsRank n m automaton state rank
      → moves state ≡ move_of n m automaton rank state
