-- The names of other crates, and of the types of the code, that more than one definition cites, passed on from one place.
pub use Rattle.dcv_automaton_text.specs.File.{AutomatonFile}
pub use Rattle.dcv_automaton_text.specs.Rules.{IsGood}
pub use Rattle.dcv_automaton_text.specs.Spelled.{spelled}
pub use Rattle.dcv_build.specs.Budget.{IsAutomatonOf, IsOver, IsWithinBudget}
pub use Rattle.dcv_build.specs.Counts.{AreCounts}
pub use Rattle.dcv_c.specs.Faults.{IsReadAs as IsReadAsUnit}
pub use Rattle.dcv_c.specs.Layout.{text_of}
pub use Rattle.dcv_cli.specs.declared.budget_line.Excess.{Excess}
pub use Rattle.dcv_cli.specs.declared.budget_line.Excess.TheVariants.{Nodes, States}
pub use Rattle.dcv_cli.specs.declared.budget_line.Over.{Over}
pub use Rattle.dcv_cli.specs.declared.faults.AutomatonFault.TheVariants.{Length, Syntax, Table}
pub use Rattle.dcv_cli.specs.declared.faults.FormulaFault.TheVariants.{Declarations, Names, Outputs}
pub use Rattle.dcv_cli.specs.declared.faults.TraceFault.{TraceFault}
pub use Rattle.dcv_cli.specs.declared.faults.TraceFault.TheVariants.{Empty, Length as TraceLength, Line}
pub use Rattle.dcv_cli.specs.declared.refusal.Refusal.{Refusal}
pub use Rattle.dcv_cli.specs.declared.refusal.Refusal.TheVariants.{Budget, Formula, Observer as ObserverRefusal, Open, Product, Read, Trace, Tuples, Write}
pub use Rattle.dcv_cli.specs.declared.refused.Refused.{Refused}
pub use Rattle.dcv_cli.specs.declared.refused.Which.{Which}
pub use Rattle.dcv_cli.specs.declared.refused.Which.TheVariants.{First, Number, Only, Second}
pub use Rattle.dcv_cli.specs.declared.status.Status.{Status}
pub use Rattle.dcv_cli.specs.declared.status.Status.TheVariants.{Automaton as StatusAutomaton, Budget as StatusBudget, Formula as StatusFormula}
pub use Rattle.dcv_cli.specs.declared.status.Status.TheVariants.{Observer as StatusObserver, Trace as StatusTrace}
pub use Rattle.dcv_cli.specs.declared.status.Status.TheVariants.{Done, Input, Memory, NotValid, Output, Usage, Valid}
pub use Rattle.dcv_command.specs.Request.{Certify, Convert, Implies, IsTaken, Replay, Report, Request, Set, Stuck, Sweep, Synth, files_of}
pub use Rattle.dcv_command.specs.declared.words.SetQuestion.{SetQuestion}
pub use Rattle.dcv_command.specs.declared.words.SetQuestion.TheVariants.{Follows, Together}
pub use Rattle.dcv_command.specs.declared.words.Subset.{Subset}
pub use Rattle.dcv_command.specs.declared.words.Version.{Version}
pub use Rattle.dcv_command.specs.declared.words.Version.TheVariants.{One, Two}
pub use Rattle.dcv_dfa.specs.Auto.{count_of_nodes}
pub use Rattle.dcv_explore.specs.declared.explorer.Limits.{Limits}
pub use Rattle.dcv_io.specs.Asked.{Asks, AsksPrefix}
pub use Rattle.dcv_io.specs.Disk.{Disk, held_of}
pub use Rattle.dcv_io.specs.Faults.{Rises, RisesIf, has_risen}
pub use Rattle.dcv_io.specs.Written.{Appends, AppendsStrictPrefix}
pub use Rattle.dcv_language.specs.Language.{Language}
pub use Rattle.dcv_language.specs.Verdict.{IsLeastOf, IsVerdict, Verdict}
pub use Rattle.dcv_language.specs.VerdictText.{line, verdict_text}
pub use Rattle.dcv_language.specs.declared.count.Count.{Count}
pub use Rattle.dcv_language.specs.declared.kind.Kind.{Kind}
pub use Rattle.dcv_language.specs.declared.kind.Kind.TheVariants.{All, Automaton}
pub use Rattle.dcv_logic.specs.Models.{models}
pub use Rattle.dcv_observer.specs.declared.fault.ObsFault.{ObsFault}
pub use Rattle.dcv_print.specs.Printed.{texts_of}
pub use Rattle.dcv_print.specs.Sections.{all_text}
pub use Rattle.dcv_replay.specs.Observer.{Observer}
pub use Rattle.dcv_scope.specs.declared.faults.ScopeFault.{ScopeFault}
pub use Rattle.dcv_sentence.specs.declared.faults.ReadFault.{ReadFault}
pub use Rattle.dcv_syntax.specs.Plain.{PlainFile}
pub use Rattle.dcv_word.specs.Behaviour.{Word}
