-- What is answered: a controller, or a strategy of the environment.
--     IsUnrealisable n m automaton strategy    the bound is the rank of the start, and the moves are all there are
--     IsPlayed n m automaton outcome           the controller of least outputs, or the strategy of least moves
--     is_controller outcome                    whether it is a controller
--     IfController outcome P                   if it is one, P of it; and so `IfStrategy`
use Rattle.std.specs.Prelude.{ℕ, Bool, true, false}
use Rattle.dcv_language.specs.Automaton.{Automaton}
use Rattle.dcv_synth.specs.Winning.{IsRank}
use Rattle.dcv_synth.specs.Moves.{AreMoves}
use Rattle.dcv_synth.specs.Control.{ControlValue}
use Rattle.dcv_synth.specs.declared.strategy.Strategy.{Strategy as PlainStrategy}
use Rattle.dcv_synth.specs.declared.deciding.Outcome.{Outcome}
use Rattle.dcv_synth.specs.declared.deciding.Outcome.TheVariants.{Controller, Strategy}

pub record IsUnrealisable (n m : ℕ) (automaton : Automaton ℕ) (strategy : PlainStrategy) : Type 0 where
  pub bound : IsRank n m automaton automaton.start strategy.bound
  pub moves : AreMoves n m automaton strategy.moves.items

abbrev pub is_controller : Outcome → Bool
is_controller (Controller control) = true
is_controller (Strategy strategy) = false

abbrev pub IfController : Outcome → (ControlValue → Type 0) → Type 0
IfController (Controller control) P = P control
IfController (Strategy strategy) P = Unit {0}

abbrev pub IfStrategy : Outcome → (PlainStrategy → Type 0) → Type 0
IfStrategy (Controller control) P = Unit {0}
IfStrategy (Strategy strategy) P = P strategy
