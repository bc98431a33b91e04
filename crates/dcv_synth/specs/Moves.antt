-- The environment's strategy as a table: a move for the start and for each state that accepts, where it has a rank.
--     IsMove n m automaton move              the state is one of these, with its rank and the least input by which it is beaten within it
--     AreMoves n m automaton moves           these are all of them, in the order of the states
--     input_at n moves state                 the input of the state's move, and false alone for a state that has none
use Rattle.std.specs.Prelude.{◌≡◌, ◌↔◌, ℕ, ◌<◌, ◌==◌, Bool, false, if◌then◌else◌, List, [], ◌∷◌, replicate, Contains}
use Rattle.std.specs.List.{AllPairs}
use Rattle.dcv_language.specs.Automaton.{Automaton}
use Rattle.dcv_synth.specs.Winning.{IsRank, move_of}
use Rattle.dcv_synth.specs.Play.{IsStartOr}
use Rattle.dcv_synth.specs.declared.strategy.Move.{Move}

pub record IsMove (n m : ℕ) (automaton : Automaton ℕ) (move : Move) : Type 0 where
  pub from : IsStartOr automaton automaton.accepting move.state
  pub ranked : IsRank n m automaton move.state move.rank
  pub least : move.input ≡ move_of n m automaton move.rank move.state

pub record AreMoves (n m : ℕ) (automaton : Automaton ℕ) (moves : List Move) : Type 0 where
  pub each : (move : Move) → Contains moves move ↔ IsMove n m automaton move
  pub in_order : AllPairs (λ (one other : Move). one.state < other.state) moves

abbrev pub input_at : ℕ → List Move → ℕ → List Bool
input_at n [] state = replicate n false
input_at n (move ∷ moves) state = if move.state == state then move.input else input_at n moves state
