-- What is known of a formula file that was read, of its automaton, of its verdict, and of a report on it.
--     IsRead text file formula         the text spells the file, and this is what is kept of it
--     WasRead formula                  of some text and file
--     IsBuilt file limits built        the automaton and the counts are the file's, whose steps are all within the limits
--     IsDecided file limits verdict    so is the verdict
--     CanBePrinted names built         there is a name for each variable, and the automaton and the counts are within what may be printed
--     Reports kind k L names counts r  the report has the set's verdict, and says what is asked for
use Rattle.std.specs.Prelude.{◌≡◌, ◌≤◌, ℕ, List, length, map}
use Rattle.dcv_cli.specs.Common.{PlainFile, models, Language, Verdict, IsVerdict, Limits, count_of_nodes}
use Rattle.dcv_cli.specs.Common.{IsAutomatonOf, IsWithinBudget, AreCounts, Count, texts_of, Kind}
use Rattle.dcv_automaton_text.specs.Rules.{AreNames}
use Rattle.dcv_build.specs.Given.{IsCore}
use Rattle.dcv_build.specs.declared.builder.Built.{Built}
use Rattle.dcv_core.specs.Steps.{without_core}
use Rattle.dcv_language.specs.Limits.{most_states, most_nodes}
use Rattle.dcv_print.specs.Counts.{ArePrintableCounts}
use Rattle.dcv_print.specs.Report.{ReportValue}
use Rattle.dcv_syntax.specs.declared.names.Name.{Name}
use Rattle.dcv_cli.specs.Budget.{steps_of_file}
use Rattle.dcv_cli.specs.FormulaFile.{IsFormulaFile}
use Rattle.dcv_cli.specs.Report.{Says}
use Rattle.dcv_cli.specs.declared.formula_file.FormulaFile.{FormulaFile}

pub record IsRead (text : List ℕ) (file : PlainFile) (formula : FormulaFile) : Type 0 where
  pub spelled : IsFormulaFile text file
  pub names : formula.names.items ≡ file.variables
  pub declared : formula.core.declared ≡ length file.variables
  pub steps : formula.core.steps ≡ map without_core (steps_of_file file)
  pub core : IsCore formula.core
  pub goal : formula.goal ≡ file.goal.span.start

pub record WasRead (formula : FormulaFile) : Type 0 where
  pub text : List ℕ
  pub file : PlainFile
  pub is : IsRead text file formula

pub record IsBuilt (file : PlainFile) (limits : Limits) (built : Built) : Type 0 where
  pub within : IsWithinBudget (steps_of_file file) limits
  pub automaton : IsAutomatonOf (length file.variables) (models file) built.auto
  pub states : length built.auto.rows ≤ limits.states
  pub nodes : count_of_nodes built.auto ≤ limits.nodes
  pub counts : AreCounts (steps_of_file file) limits built.counts.items

pub record IsDecided (file : PlainFile) (limits : Limits) (decided : Verdict) : Type 0 where
  pub within : IsWithinBudget (steps_of_file file) limits
  pub verdict : IsVerdict (length file.variables) (models file) decided

pub record CanBePrinted (names : List Name) (built : Built) : Type 0 where
  pub are_names : AreNames (texts_of names)
  pub slots : length names ≡ built.auto.arena.slots
  pub states : length built.auto.rows ≤ most_states
  pub nodes : count_of_nodes built.auto ≤ most_nodes
  pub counts : ArePrintableCounts built.counts.items

pub record Reports (kind : Kind) (k : ℕ) (L : Language) (names : List (List ℕ)) (counts : List Count) (report : ReportValue) : Type 0 where
  pub verdict : IsVerdict k L report.verdict
  pub says : Says kind k L names counts report.verdict report.text
