-- The moves of the first states, while they are listed.
--     AreMovesBelow n m automaton states moves    the moves of the states below the number
--     IsMoveAt n m automaton state found          the state's move, or none where it has none
--     with_move moves found                       the moves, and this one after them
--     starts_or_wins start win state              whether the state is the start, or in the set
use Rattle.std.specs.Prelude.{◌≡◌, ℕ, ◌<◌, ◌==◌, ◌||◌, Bool, List, [], ◌∷◌, ◌++◌, Option, Some, None, Contains}
use Rattle.std.specs.List.{AllPairs}
use Rattle.dcv_language.specs.Automaton.{Automaton}
use Rattle.dcv_synth.specs.Moves.{IsMove}
use Rattle.dcv_synth.specs.Answered.{won_at}
use Rattle.dcv_synth.specs.declared.strategy.Move.{Move}

pub record AreMovesBelow (n m : ℕ) (automaton : Automaton ℕ) (states : ℕ) (moves : List Move) : Type 0 where
  pub only : (move : Move) → Contains moves move → IsMove n m automaton move × (move.state < states)
  pub all : (move : Move) → IsMove n m automaton move → move.state < states → Contains moves move
  pub in_order : AllPairs (λ (one other : Move). one.state < other.state) moves

abbrev pub IsMoveAt : ℕ → ℕ → Automaton ℕ → ℕ → Option Move → Type 0
IsMoveAt n m automaton state None = (move : Move) → move.state ≡ state → ¬ IsMove n m automaton move
IsMoveAt n m automaton state (Some move) = IsMove n m automaton move × (move.state ≡ state)

abbrev pub with_move : List Move → Option Move → List Move
with_move moves None = moves
with_move moves (Some move) = moves ++ move ∷ []

abbrev pub starts_or_wins : ℕ → List Bool → ℕ → Bool
starts_or_wins start win state = (state == start) || won_at win state
