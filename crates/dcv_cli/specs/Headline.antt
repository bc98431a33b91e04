-- The promise of the program in one place: what a run of `all` says of a text, and one of `tables`. It is what `Right` says of these commands, in
-- the words of a user.
--     AllIsSaid file outcome           a verdict, an automaton and two observers of exactly the behaviours that model the file
--     TablesAreSaid file outcome       an observer of exactly these in constant tables, whose steps are short and end
--     IsAnswered IsSaid text limits outcome
--                                      so it is said; or the text's first fault is named, or the first step that is over the limits
use Rattle.std.specs.Prelude.{◌≡◌, ◌↔◌, ℕ, ◌≤◌, List, [], Some, length, map}
use Rattle.dcv_cli.specs.Common.{PlainFile, models, Verdict, IsLeastOf, verdict_text}
use Rattle.dcv_cli.specs.Common.{AutomatonFile, IsGood, spelled, IsReadAsUnit, Limits, IsWithinBudget, texts_of, all_text, Kind, All, Report}
use Rattle.dcv_cli.specs.Common.{Over, Refusal, Budget, Only, Valid, NotValid}
use Rattle.dcv_language.specs.Certificate.{IsCertificate}
use Rattle.dcv_language.specs.declared.kind.Kind.TheVariants.{Tables as InTables}
use Rattle.dcv_language.specs.Language.{HasEvery, outside}
use Rattle.dcv_language.specs.Table.{Table, IsTable, AcceptsExactly}
use Rattle.dcv_automaton_text.specs.Form.{IsSpellable}
use Rattle.dcv_automaton_text.specs.Meaning.{table_of, access_words_of, suffix_words_of}
use Rattle.dcv_lustre.specs.Tree.{Node}
use Rattle.dcv_lustre.specs.Faults.{IsReadAs as IsReadAsNode}
use Rattle.dcv_lustre.specs.Observer.{input_names}
use Rattle.dcv_lustre.specs.Laws.{Observes as ObservesByNode}
use Rattle.dcv_c.specs.Tree.{CUnit}
use Rattle.dcv_c.specs.Observer.{parameter_name}
use Rattle.dcv_c.specs.Laws.{Observes as ObservesByUnit}
use Rattle.dcv_c_tables.specs.Unit.{Tables}
use Rattle.dcv_c_tables.specs.Layout.{text_of as text_of_tables}
use Rattle.dcv_c_tables.specs.Laws.{Observes as ObservesByTables}
use Rattle.dcv_cli.specs.Budget.{steps_of_file, IsFirstOver}
use Rattle.dcv_cli.specs.FormulaFile.{IsRefused, IsFormulaFile}
use Rattle.dcv_cli.specs.Held.{Texts}
use Rattle.dcv_cli.specs.Outcome.{Outcome, refused}
use Rattle.dcv_cli.specs.Request.{AsksFor}
use Rattle.dcv_cli.specs.Right.{IsRight}

pub record AllIsSaid (file : PlainFile) (outcome : Outcome) : Type 0 where
  pub verdict : Verdict
  pub automaton : AutomatonFile
  pub node : Node
  pub unit : CUnit
  pub node_text : List ℕ
  pub unit_text : List ℕ
  -- the report is these four texts, each after a line that names it
  pub report : outcome.out ≡ all_text (verdict_text verdict) (spelled automaton) node_text unit_text
  -- The automaton's text has the form and keeps the rules, and its table accepts exactly the behaviours that model the file. No table automaton
  -- for these has fewer states, as its own words show.
  pub form : IsSpellable automaton
  pub rules : IsGood automaton
  pub accepts : AcceptsExactly (length file.variables) (table_of automaton) (models file)
  pub fewest : (table : Table) → IsTable (length file.variables) table → AcceptsExactly (length file.variables) table (models file)
      → automaton.states ≤ length table
  pub certificate : IsCertificate (length file.variables) (models file) (access_words_of automaton) (suffix_words_of automaton)
  -- its variables are the file's, in order
  pub variables : automaton.names ≡ texts_of file.variables
  -- Each observer's text is read as a program of its subset, whose inputs are named after these variables, and accepts exactly these behaviours
  -- by the meaning of that subset.
  pub node_read : IsReadAsNode node_text node
  pub node_inputs : node.inputs ≡ input_names (texts_of file.variables)
  pub node_observes : ObservesByNode (length file.variables) node (models file)
  pub unit_read : IsReadAsUnit unit_text unit
  pub unit_parameters : unit.parameters ≡ map parameter_name (texts_of file.variables)
  pub unit_observes : ObservesByUnit (length file.variables) unit (models file)
  -- The run ends with 0 exactly where every behaviour models the file, and else with 1. Then the counterexample is a shortest behaviour that does not.
  pub valid : (outcome.status ≡ Valid) ↔ HasEvery (length file.variables) (models file)
  pub not_valid : (outcome.status ≡ NotValid) ↔ (HasEvery (length file.variables) (models file) → ⊥)
  pub counterexample : IsLeastOf (length file.variables) (outside (models file)) verdict.counterexample
  pub example : IsLeastOf (length file.variables) (models file) verdict.example
  pub no_message : outcome.err ≡ []

pub record TablesAreSaid (file : PlainFile) (outcome : Outcome) : Type 0 where
  pub tables : Tables
  -- the report is the text of these tables, whose parameters are named after the file's variables, in order
  pub report : outcome.out ≡ text_of_tables tables
  pub parameters : tables.parameters ≡ map parameter_name (texts_of file.variables)
  -- They accept exactly the behaviours that model the file. Each step ends, reads nothing beyond an array, and looks at each variable once at most.
  pub observes : ObservesByTables (length file.variables) tables (models file)
  -- the run ends with 0 exactly where every behaviour models the file, and else with 1
  pub valid : (outcome.status ≡ Valid) ↔ HasEvery (length file.variables) (models file)
  pub not_valid : (outcome.status ≡ NotValid) ↔ (HasEvery (length file.variables) (models file) → ⊥)
  pub no_message : outcome.err ≡ []

pub data IsAnswered (IsSaid : PlainFile → Outcome → Type 0) (text : List ℕ) (limits : Limits) (outcome : Outcome) : Type 0 where
  FirstFault : (refusal : Refusal) → IsRefused text refusal → outcome ≡ refused refusal Only → IsAnswered IsSaid text limits outcome
  FirstStep : (file : PlainFile) → IsFormulaFile text file → (over : Over) → IsFirstOver limits file over → outcome ≡ refused (Budget over) Only
      → IsAnswered IsSaid text limits outcome
  Said : (file : PlainFile) → IsFormulaFile text file → IsSaid file outcome → IsAnswered IsSaid text limits outcome

-- whatever is right where the words ask for this kind of report on a text answers it
abbrev pub Answers : Kind → (PlainFile → Outcome → Type 0) → Type 0
Answers kind IsSaid = (words : List (List ℕ)) (held : Texts) (name : List ℕ) (limits : Limits) (text : List ℕ) (outcome : Outcome)
    → AsksFor words (Report kind name limits) → held 0 name ≡ Some text → IsRight words held outcome → IsAnswered IsSaid text limits outcome

-- and says it of a formula file whose steps are within the limits
abbrev pub IsComplete : Kind → (PlainFile → Outcome → Type 0) → Type 0
IsComplete kind IsSaid = (words : List (List ℕ)) (held : Texts) (name : List ℕ) (limits : Limits) (text : List ℕ) (outcome : Outcome) (file : PlainFile)
    → AsksFor words (Report kind name limits) → held 0 name ≡ Some text → IsRight words held outcome
    → IsFormulaFile text file → IsWithinBudget (steps_of_file file) limits → IsSaid file outcome

abbrev pub Headline : Type 0
Headline = Answers All AllIsSaid

abbrev pub HeadlineIsComplete : Type 0
HeadlineIsComplete = IsComplete All AllIsSaid

abbrev pub TablesHeadline : Type 0
TablesHeadline = Answers InTables TablesAreSaid

abbrev pub TablesHeadlineIsComplete : Type 0
TablesHeadlineIsComplete = IsComplete InTables TablesAreSaid
