-- What is right where a report on a formula file is asked for.
--     Says kind ..                 the text is what the kind of report says, of a set of behaviours, what its steps took and its verdict
--     IsReport kind limits file outcome
--                                  the outcome is the report on the file
use Rattle.std.specs.Prelude.{◌≡◌, ℕ, List, [], length}
use Rattle.dcv_cli.specs.Common.{PlainFile, models, Language, Verdict, IsVerdict, verdict_text, Count, Limits}
use Rattle.dcv_cli.specs.Common.{AreCounts, texts_of, all_text, Kind, Automaton, All}
use Rattle.dcv_print.specs.Observers.{SaysNode, SaysUnit, SaysTables}
use Rattle.dcv_language.specs.declared.kind.Kind.TheVariants.{Check, Lustre, C, Tables}
use Rattle.dcv_cli.specs.Automaton.{SaysAutomaton}
use Rattle.dcv_cli.specs.Budget.{steps_of_file}
use Rattle.dcv_cli.specs.Outcome.{Outcome}
use Rattle.dcv_cli.specs.Status.{status_of_verdict}

-- all but the tables, each after a line that names it
pub record SaysAll (k : ℕ) (L : Language) (names : List (List ℕ)) (counts : List Count) (verdict : Verdict) (text : List ℕ) : Type 0 where
  pub automaton : List ℕ
  pub node : List ℕ
  pub unit : List ℕ
  pub says_automaton : SaysAutomaton k L names counts automaton
  pub says_node : SaysNode k L names node
  pub says_unit : SaysUnit k L names unit
  pub says : text ≡ all_text (verdict_text verdict) automaton node unit

-- the verdict, the automaton, an observer, or all
abbrev pub Says : Kind → ℕ → Language → List (List ℕ) → List Count → Verdict → List ℕ → Type 0
Says Check k L names counts verdict text = text ≡ verdict_text verdict
Says Automaton k L names counts verdict text = SaysAutomaton k L names counts text
Says Lustre k L names counts verdict text = SaysNode k L names text
Says C k L names counts verdict text = SaysUnit k L names text
Says Tables k L names counts verdict text = SaysTables k L names text
Says All k L names counts verdict text = SaysAll k L names counts verdict text

-- The status is that of the verdict of the behaviours that model the file, and of these the text says what is asked for.
pub record IsReport (kind : Kind) (limits : Limits) (file : PlainFile) (outcome : Outcome) : Type 0 where
  pub verdict : Verdict
  pub is_verdict : IsVerdict (length file.variables) (models file) verdict
  pub status : outcome.status ≡ status_of_verdict verdict
  -- what each step of the file's goal took, which are all within the limits
  pub counts : List Count
  pub are_counts : AreCounts (steps_of_file file) limits counts
  pub says : Says kind (length file.variables) (models file) (texts_of file.variables) counts verdict outcome.out
  pub no_message : outcome.err ≡ []
