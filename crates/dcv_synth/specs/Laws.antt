-- The laws that `src/laws.rt` proves.
use Rattle.std.specs.Prelude.{◌≡◌, ℕ, suc, ◌+◌, ◌<◌, ◌≤◌, Bool, not, ◌&&◌, List, length, IsTrue, IsFalse}
use Rattle.dcv_language.specs.Language.{Language, HaveSameBehaviours}
use Rattle.dcv_language.specs.Automaton.{Automaton, accepts}
use Rattle.dcv_language.specs.Table.{automaton_of as table_automaton}
use Rattle.dcv_dfa.specs.Raw.{RawValue, IsRaw, automaton_of}
use Rattle.dcv_dfa.specs.Auto.{table_of_states}
use Rattle.dcv_synth.specs.Game.{Controller, Environment, Wins, Beats}
use Rattle.dcv_synth.specs.Winning.{is_held, IsSafe, IsWin, is_beaten, IsRank}
use Rattle.dcv_synth.specs.Realisable.{IsRealisable}
use Rattle.dcv_synth.specs.Control.{RowsValue, ControlValue, IsControl, IsControlOf, value_in, controller_by, lines_of, unit_of}
use Rattle.dcv_synth.specs.Least.{AreLeastLines}
use Rattle.dcv_synth.specs.Units.{ControlLines, controller_in}
use Rattle.dcv_word.specs.Behaviour.{Word, IsBehaviour}
use Rattle.dcv_language.specs.Limits.{most_nodes}
use Rattle.dcv_automaton_text.specs.Rules.{AreNames}
use Rattle.dcv_c.specs.Rules.{IsWellNamed}
use Rattle.dcv_c.specs.Form.{IsSpellable}
use Rattle.dcv_synth.specs.Outcome.{IsUnrealisable}
use Rattle.dcv_synth.specs.declared.strategy.Strategy.{Strategy}
use Rattle.dcv_synth.specs.Moves.{input_at}
use Rattle.dcv_synth.specs.SameSteps.{GoOnAlike}
use Rattle.dcv_synth.specs.Play.{Step, controller_of, AnswersSo, environment_of, MovesSo}

-- ---- one of the two at most

abbrev pub WinnersAreNotBeaten : Type 0
WinnersAreNotBeaten = (n m : ℕ) (L : Language) (controller : Controller) (environment : Environment) (bound : ℕ)
    → Wins n m L controller → ¬ Beats n m L environment bound

-- ---- one of the two at least

abbrev pub HeldStatesAreNotBeaten : Type 0
HeldStatesAreNotBeaten = (n m : ℕ) (automaton : Automaton ℕ) (set : ℕ → Bool) (bound state : ℕ)
    → IsSafe n m automaton set → IsTrue (is_held n m automaton set state) → IsFalse (is_beaten n m automaton bound state)

abbrev pub is_unbeaten : ℕ → ℕ → Automaton ℕ → ℕ → ℕ → Bool
is_unbeaten n m automaton bound state = automaton.accepting state && not (is_beaten n m automaton bound state)

-- one letter more beats no further state that accepts
abbrev pub BeatsNoMore : ℕ → ℕ → Automaton ℕ → ℕ → Type 0
BeatsNoMore n m automaton bound = (state : ℕ) → IsTrue (automaton.accepting state)
    → is_beaten n m automaton (suc bound) state ≡ is_beaten n m automaton bound state

abbrev pub UnbeatenStatesAreWin : Type 0
UnbeatenStatesAreWin = (n m : ℕ) (automaton : Automaton ℕ) (bound : ℕ) → BeatsNoMore n m automaton bound
    → IsWin n m automaton (is_unbeaten n m automaton bound)

-- a state is then held by them, or beaten within one letter more
abbrev pub UnbeatenStatesAreHeld : Type 0
UnbeatenStatesAreHeld = (n m : ℕ) (automaton : Automaton ℕ) (bound state : ℕ) → IsFalse (is_beaten n m automaton (suc bound) state)
    → IsTrue (is_held n m automaton (is_unbeaten n m automaton bound) state)

-- ---- how each of the two wins

abbrev pub LeastOutputsWin : Type 0
LeastOutputsWin = (n m : ℕ) (automaton : Automaton ℕ) (win : ℕ → Bool) (step : Step)
    → IsSafe n m automaton win → IsTrue (is_held n m automaton win automaton.start) → AnswersSo n m automaton win step
    → Wins n m (accepts automaton) (controller_of automaton.start step)

abbrev pub LeastMovesBeat : Type 0
LeastMovesBeat = (n m : ℕ) (automaton : Automaton ℕ) (moves : ℕ → List Bool) (rank : ℕ)
    → MovesSo n m automaton moves → IsRank n m automaton automaton.start rank
    → Beats n m (accepts automaton) (environment_of automaton moves) rank

-- the controller that the diagrams of least outputs describe
abbrev pub ControlsWin : Type 0
ControlsWin = (n m : ℕ) (automaton : Automaton ℕ) (control : ControlValue) → automaton.start ≡ 0 → IsControlOf n m automaton control
    → Wins n m (accepts automaton) (controller_by m control)

-- ---- one of the two answers

abbrev pub NotBothAreRight : Type 0
NotBothAreRight = (n m : ℕ) (automaton : Automaton ℕ) (strategy : Strategy) → IsRealisable n m automaton → ¬ IsUnrealisable n m automaton strategy

-- which controller, and which strategy
pub record AreTheSameRows (n : ℕ) (one other : RowsValue) : Type 0 where
  pub count : length one.rows ≡ length other.rows
  pub values : (place : ℕ) (input : List Bool) → place < length one.rows → length input ≡ n → value_in one place input ≡ value_in other place input

pub record AreTheSameControl (n : ℕ) (one other : ControlValue) : Type 0 where
  pub states : one.states ≡ other.states
  pub next : AreTheSameRows n one.next other.next
  pub output : AreTheSameRows n one.output other.output

abbrev pub OneControlIsRight : Type 0
OneControlIsRight = (n m : ℕ) (automaton : Automaton ℕ) (one other : ControlValue) → IsControlOf n m automaton one → IsControlOf n m automaton other
    → AreTheSameControl n one other

abbrev pub OneStrategyIsRight : Type 0
OneStrategyIsRight = (n m : ℕ) (automaton : Automaton ℕ) (one other : Strategy) → IsUnrealisable n m automaton one → IsUnrealisable n m automaton other
    → (one.bound ≡ other.bound) × (one.moves.items ≡ other.moves.items)

-- ---- games that are played alike

-- which answer is right depends on where letters over the variables lead, and on nothing else
abbrev pub ControlsOfLikeAutomata : Type 0
ControlsOfLikeAutomata = (n m : ℕ) (one other : Automaton ℕ) (control : ControlValue) → GoOnAlike (n + m) one other
    → IsControlOf n m one control → IsControlOf n m other control

abbrev pub StrategiesOfLikeAutomata : Type 0
StrategiesOfLikeAutomata = (n m : ℕ) (one other : Automaton ℕ) (strategy : Strategy) → GoOnAlike (n + m) one other
    → IsUnrealisable n m one strategy → IsUnrealisable n m other strategy

-- a raw automaton goes on as its table does
abbrev pub TablesGoOnAlike : Type 0
TablesGoOnAlike = (raw : RawValue) → IsRaw raw → raw.start ≡ 0 → GoOnAlike raw.arena.slots (automaton_of raw) (table_automaton (table_of_states raw))

-- the strategy of least moves beats every controller
abbrev pub StrategiesBeat : Type 0
StrategiesBeat = (n m : ℕ) (automaton : Automaton ℕ) (strategy : Strategy) → IsUnrealisable n m automaton strategy
    → Beats n m (accepts automaton) (environment_of automaton (input_at n strategy.moves.items)) strategy.bound

-- who wins depends on the behaviours of the set alone
abbrev pub WinsOverSameBehaviours : Type 0
WinsOverSameBehaviours = (n m : ℕ) (L M : Language) (controller : Controller) → HaveSameBehaviours (n + m) L M → Wins n m L controller → Wins n m M controller

abbrev pub BeatsOverSameBehaviours : Type 0
BeatsOverSameBehaviours = (n m : ℕ) (L M : Language) (environment : Environment) (bound : ℕ) → HaveSameBehaviours (n + m) L M
    → Beats n m L environment bound → Beats n m M environment bound

-- ---- units

-- what a unit asks of the names of its inputs, and of the lines of its rows
pub record HasUnit (names : List (List ℕ)) (control : ControlValue) : Type 0 where
  pub is_control : IsControl control
  pub are_names : AreNames names
  pub inputs : length names ≡ control.next.arena.slots
  pub next_lines : length (lines_of names control).next.lines ≤ most_nodes
  pub output_lines : length (lines_of names control).output.lines ≤ most_nodes

-- it is a unit of the subset
abbrev pub UnitsKeepTheRules : Type 0
UnitsKeepTheRules = (names : List (List ℕ)) (control : ControlValue) → HasUnit names control → IsWellNamed (unit_of names control) × IsSpellable (unit_of names control)

-- asked with the inputs, its steps return the controller's outputs
abbrev pub UnitsAnswer : Type 0
UnitsAnswer = (names : List (List ℕ)) (control : ControlValue) → HasUnit names control → (m : ℕ) (inputs : Word) → IsBehaviour control.next.arena.slots inputs
    → controller_in m (unit_of names control) inputs ≡ controller_by m control inputs

-- so it wins where the controller does
abbrev pub UnitsWin : Type 0
UnitsWin = (names : List (List ℕ)) (control : ControlValue) → HasUnit names control → (m : ℕ) (L : Language)
    → Wins control.next.arena.slots m L (controller_by m control) → Wins control.next.arena.slots m L (controller_in m (unit_of names control))

-- controllers that do the same have one unit
abbrev pub SameControlsHaveOneUnit : Type 0
SameControlsHaveOneUnit = (names : List (List ℕ)) (one other : ControlValue) → IsControl one → IsControl other
    → one.next.arena.slots ≡ other.next.arena.slots → AreTheSameControl one.next.arena.slots one other → unit_of names one ≡ unit_of names other

-- the lines of the controller of least outputs are so
abbrev pub ControlsHaveLeastLines : Type 0
ControlsHaveLeastLines = (names : List (List ℕ)) (n m : ℕ) (automaton : Automaton ℕ) (control : ControlValue) → HasUnit names control
    → IsControlOf n m automaton control → AreLeastLines n m automaton names (lines_of names control)

-- and there are no others, so a requirement has one controller's unit
abbrev pub LeastLinesAreOne : Type 0
LeastLinesAreOne = (names : List (List ℕ)) (n m : ℕ) (automaton : Automaton ℕ) (one other : ControlLines)
    → AreLeastLines n m automaton names one → AreLeastLines n m automaton names other → one ≡ other
