-- The text of a command that writes the automaton of a formula.
--     SaysAutomaton k L names counts text
--                       the text spells the canonical automaton of the set over k variables with these names, words that show that no
--                       automaton for the set has fewer states, and what the steps of the formula took
use Rattle.std.specs.Prelude.{◌≡◌, ℕ, List, Some}
use Rattle.dcv_cli.specs.Common.{Count, Language, AutomatonFile, spelled}
use Rattle.dcv_print.specs.Automaton.{IsAutomatonOf}
use Rattle.dcv_automaton_read.specs.File.{step_part as step_part_of}

pub record SaysAutomaton (k : ℕ) (L : Language) (names : List (List ℕ)) (counts : List Count) (text : List ℕ) : Type 0 where
  pub automaton : AutomatonFile
  pub is : IsAutomatonOf k L names automaton
  -- a line for each step, with its place as its number
  pub steps : automaton.steps ≡ Some (step_part_of counts)
  pub says : text ≡ spelled automaton
