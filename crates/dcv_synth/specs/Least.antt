-- The controller of least outputs as lines of nodes. For each of its states there is a row of both kinds: at the inputs of a step the first has the
-- state that comes next, and the second the outputs as a number.
--     AreRowsFor n bound states f all          listed rows over n inputs, one for each state, with the numbers of this function
--     AreLeastLines n m automaton names all    the start can be held, and at it and at each state of Win the rows have the least outputs that lead
--                                              into Win, and the states to which these lead; the inputs have these names
use Rattle.std.specs.Prelude.{◌≡◌, ◌↔◌, ℕ, ◌<◌, Bool, List, length, slice_get, Some, Contains}
use Rattle.std.specs.List.{All, AllPairs}
use Rattle.dcv_word.specs.Letter.{bits_of}
use Rattle.dcv_language.specs.Automaton.{Automaton}
use Rattle.dcv_language.specs.Limits.{number_bound}
use Rattle.dcv_automaton_text.specs.Rules.{AreNames}
use Rattle.dcv_dfa.specs.NodeLines.{NodeLinesValue}
use Rattle.dcv_automaton_file.specs.Listed.{AreListed, number_in}
use Rattle.dcv_synth.specs.Play.{answer_of, IsStartOr}
use Rattle.dcv_synth.specs.Realisable.{IsRealisable}
use Rattle.dcv_synth.specs.Units.{ControlLines}

pub record AreRowsFor (n bound : ℕ) (states : List ℕ) (f : ℕ → List Bool → ℕ) (all : NodeLinesValue) : Type 0 where
  pub listed : AreListed n bound (length states) all
  pub numbers : (place state : ℕ) (input : List Bool) → slice_get states place ≡ Some state → length input ≡ n → number_in all place input ≡ f state input

pub record AreLeastLines (n m : ℕ) (automaton : Automaton ℕ) (names : List (List ℕ)) (all : ControlLines) : Type 0 where
  pub of : all.names ≡ names
  pub are_names : AreNames names
  pub inputs : length names ≡ n
  pub realisable : IsRealisable n m automaton
  pub states : (state : ℕ) → Contains all.states state ↔ IsStartOr automaton realisable.win state
  pub in_order : AllPairs (λ (one other : ℕ). one < other) all.states
  pub below : All (λ state. state < number_bound) all.states
  pub next : AreRowsFor n number_bound all.states (λ state input. (answer_of m automaton realisable.win state input).0) all.next
  pub output : AreRowsFor n 256 all.states (λ state input. bits_of (answer_of m automaton realisable.win state input).1) all.output
