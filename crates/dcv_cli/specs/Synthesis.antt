-- What is right where it is asked for a controller of the first variables of a formula file, its inputs, by the others, its outputs.
--     most_outputs                            how many outputs there may be
--     can_be_divided inputs variables         so many variables have so many inputs, and no more outputs
--     strategy_text strategy                  how the inputs beat every controller: within how many letters, and what is picked in each state
--     SaysController n m L names text         the text has the controller of least outputs for the set, over n inputs with these names and m outputs
--     SaysStrategy n m L text                 the text has the strategy of least inputs
--     IsSynthesis n m L names outcome         the outcome is one of the two
--     IsSynthesised inputs limits file o      the file's variables can be divided, it is within the limits, and so it is; or the outcome says what is not
use Rattle.std.specs.Fmt.{decimal}
use Rattle.std.specs.Prelude.{◌≡◌, ℕ, Bool, ◌&&◌, List, [], ◌++◌, length, codes, IsTrue, IsFalse, ◌+◌, ◌-◌, nat_le, take}
use Rattle.dcv_cli.specs.Common.{Word, PlainFile, models}
use Rattle.dcv_cli.specs.Common.{Language, line, IsReadAsUnit as IsReadAs, text_of, Limits, Formula, Outputs, Only, Valid, NotValid}
use Rattle.std.specs.List.{flat_map}
use Rattle.dcv_word.specs.TraceLine.{trace_line}
use Rattle.dcv_language.specs.Canonical.{IsCanonical}
use Rattle.dcv_language.specs.Table.{Table, automaton_of}
use Rattle.dcv_automaton_file.specs.File.{texts_of}
use Rattle.dcv_synth.specs.Game.{Wins, Beats}
use Rattle.dcv_synth.specs.Least.{AreLeastLines}
use Rattle.dcv_synth.specs.Moves.{input_at}
use Rattle.dcv_synth.specs.Outcome.{IsUnrealisable}
use Rattle.dcv_synth.specs.Play.{environment_of}
use Rattle.dcv_synth.specs.Units.{ControlLines, unit_of_lines, controller_in}
use Rattle.dcv_synth.specs.declared.strategy.Move.{Move}
use Rattle.dcv_synth.specs.declared.strategy.Strategy.{Strategy}
use Rattle.dcv_cli.specs.Budget.{IsBudgeted}
use Rattle.dcv_cli.specs.Outcome.{Outcome, refused}

abbrev pub most_outputs : ℕ
most_outputs = 8

abbrev pub can_be_divided : ℕ → ℕ → Bool
can_be_divided inputs variables = nat_le inputs variables && nat_le variables (inputs + most_outputs)

-- ---- what is written

abbrev pub controller_text : List ℕ → List ℕ
controller_text unit = line (codes "realisable") ++ unit

abbrev pub move_line : Move → List ℕ
move_line move = line (codes "state " ++ decimal move.state ++ codes " rank " ++ decimal move.rank ++ codes " input " ++ trace_line move.input)

abbrev pub strategy_text : Strategy → List ℕ
strategy_text strategy =
    line (codes "unrealisable") ++ line (codes "bound " ++ decimal strategy.bound) ++ flat_map move_line strategy.moves.items ++ line (codes "end")

-- ---- what it says of the behaviours of a set

pub record SaysController (n m : ℕ) (L : Language) (names : List (List ℕ)) (text : List ℕ) : Type 0 where
  -- the set's canonical table
  pub table : Table
  pub access : List Word
  pub canonical : IsCanonical (n + m) L table access
  -- the lines of the controller of least outputs
  pub lines : ControlLines
  pub least : AreLeastLines n m (automaton_of table) names lines
  pub says : text ≡ controller_text (text_of (unit_of_lines lines))
  -- What stands after the line is a sentence of the subset of C, which keeps the rules of names. Its steps, asked with any inputs, return
  -- outputs with which each behaviour that is made is in the set.
  pub read : IsReadAs (text_of (unit_of_lines lines)) (unit_of_lines lines)
  pub wins : Wins n m L (controller_in m (unit_of_lines lines))

pub record SaysStrategy (n m : ℕ) (L : Language) (text : List ℕ) : Type 0 where
  pub table : Table
  pub access : List Word
  pub canonical : IsCanonical (n + m) L table access
  pub strategy : Strategy
  pub least : IsUnrealisable n m (automaton_of table) strategy
  pub says : text ≡ strategy_text strategy
  -- Inputs that are picked so, by the state to which the letters have led, make a behaviour outside the set within the bound, whatever the
  -- controller is.
  pub beats : Beats n m L (environment_of (automaton_of table) (input_at n strategy.moves.items)) strategy.bound

pub data IsSynthesis (n m : ℕ) (L : Language) (names : List (List ℕ)) (outcome : Outcome) : Type 0 where
  Realisable : SaysController n m L names outcome.out → outcome.status ≡ Valid → outcome.err ≡ [] → IsSynthesis n m L names outcome
  Unrealisable : SaysStrategy n m L outcome.out → outcome.status ≡ NotValid → outcome.err ≡ [] → IsSynthesis n m L names outcome

-- ---- for a file

-- of the behaviours that model the file, by the names of its first variables
abbrev pub IsSynthesisOf : ℕ → PlainFile → Outcome → Type 0
IsSynthesisOf inputs file outcome =
    IsSynthesis inputs (length file.variables - inputs) (models file) (take inputs (texts_of file.variables)) outcome

-- how many variables there are is looked at before any step of the file is counted
pub data IsSynthesised (inputs : ℕ) (limits : Limits) (file : PlainFile) (outcome : Outcome) : Type 0 where
  Undivided : IsFalse (can_be_divided inputs (length file.variables)) → outcome ≡ refused (Formula Outputs) Only → IsSynthesised inputs limits file outcome
  Divided : IsTrue (can_be_divided inputs (length file.variables)) → IsBudgeted limits Only (IsSynthesisOf inputs) file outcome
      → IsSynthesised inputs limits file outcome
