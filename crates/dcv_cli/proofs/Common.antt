-- The names that more than one proof cites, passed on from one place.
pub use Rattle.dcv_automaton_file.specs.Laws.{HasFile}
pub use Rattle.dcv_automaton_read.specs.File.{step_part as step_part_of}
pub use Rattle.dcv_automaton_text.specs.File.{AutomatonFile, StepPart}
pub use Rattle.dcv_automaton_text.specs.Form.{HasForm}
pub use Rattle.dcv_automaton_text.specs.Laws.{OneFile}
pub use Rattle.dcv_automaton_text.specs.Meaning.{access_words_of}
pub use Rattle.dcv_automaton_text.specs.Rules.{AreNames, IsPlainName, most_steps}
pub use Rattle.dcv_automaton_text.specs.Spelled.{end_lines, spelled_line, step_part}
pub use Rattle.dcv_automaton_text.specs.Versions.{first_version, second_version}
pub use Rattle.dcv_build.specs.Budget.{IsAutomatonOf, IsFaultOver, IsOver, IsWithinBudget, row_at}
pub use Rattle.dcv_build.specs.Counts.{AreCounts}
pub use Rattle.dcv_build.specs.declared.builder.Built.{Built}
pub use Rattle.dcv_build.specs.Laws.{MachineAcceptsStep, WithinExcludesOver}
pub use Rattle.dcv_c.specs.Laws.{TextIsReadBack}
pub use Rattle.dcv_c.specs.Layout.{text_of}
pub use Rattle.dcv_c.specs.Observer.{observer_of as unit_of}
pub use Rattle.dcv_c.specs.Tree.{CUnit}
pub use Rattle.dcv_certify.specs.Certified.{HasGoodWords, IsCertified}
pub use Rattle.dcv_certify.specs.Laws.{OneAnswer}
pub use Rattle.dcv_certify.specs.declared.answer.Answer.{Answer}
pub use Rattle.dcv_certify.specs.declared.answer.Answer.TheVariants.{Access, Minimal, Pair}
pub use Rattle.dcv_cli.specs.Automaton.{SaysAutomaton}
pub use Rattle.dcv_cli.specs.AutomatonFile.{BreaksARule, HasNoForm, IsAutomatonText, IsRefusedAutomaton, OnAutomaton}
pub use Rattle.dcv_cli.specs.Budget.{IsAtSomeStep, IsBudgeted, IsFirstOver, NamesFirstOver, OverBudget, WithinBudget, kind_of, limit_of, steps_of_file}
pub use Rattle.dcv_cli.specs.Certificate.{IsCertificate, answer_words, status_of_answer}
pub use Rattle.dcv_cli.specs.Comparison.{Declared, IsCompared, IsDifference, OverProduct, Undeclared, WithinProduct, compared, comparison_text, have_same_texts}
pub use Rattle.dcv_cli.specs.Conversion.{IsConverted, as_version}
pub use Rattle.dcv_cli.specs.Ending.{EndsBy, HasInputCause, NoneRises, Tells}
pub use Rattle.dcv_cli.specs.FormulaFile.{Faulty, HasNoCore, IsFormulaFile, IsRefused, IsSentence, OnText, Read, Refused, TooLong}
pub use Rattle.dcv_cli.specs.Held.{ForHeld, OfHeldText, IsHeldText, OnHeld, Texts}
pub use Rattle.dcv_cli.specs.ObserverFile.{IsFaultIn, IsObserverText, IsRefusedObserver, OnObserver}
pub use Rattle.dcv_cli.specs.Outcome.{IsExplained, Outcome, refused}
pub use Rattle.dcv_cli.specs.Outside.{Outside, Stream, output_of, with_output}
pub use Rattle.dcv_cli.specs.Performed.{Answers, LeavesFor, Performs, Takes, ending}
pub use Rattle.dcv_cli.specs.ReadFile.{IsBuilt, IsRead, Reports}
pub use Rattle.dcv_cli.specs.Refusal.{is_of_text, is_open, is_read, message_of, most_automaton_bytes, most_bytes, most_observer_bytes, only, refusal_of_observer, refusal_of_reading, refusal_of_scope, status_of}
pub use Rattle.dcv_cli.specs.Replayed.{IsReplay, fault_of_trace, message_of_trace, status_of_trace}
pub use Rattle.dcv_cli.specs.Replaying.{FulfilsTrace, LeavesOfTrace, LeavesTrace, OfOpen, OfRead}
pub use Rattle.dcv_cli.specs.Report.{IsReport, Says, SaysAll}
pub use Rattle.dcv_cli.specs.Request.{AsksFor}
pub use Rattle.dcv_cli.specs.Right.{Fulfilled, Fulfils, FulfilsOver, IsRight, Misused}
pub use Rattle.dcv_cli.specs.Status.{has_cause, is_answer, is_determined, is_input, is_output, status_of_least, status_of_verdict}
pub use Rattle.dcv_cli.specs.Stuck.{IsStuckReport}
pub use Rattle.dcv_cli.specs.Swept.{IsSwept, default_limits}
pub use Rattle.dcv_cli.specs.Synthesis.{Divided, IsSynthesis, IsSynthesisOf, IsSynthesised, Realisable, SaysController, SaysStrategy, Undivided, Unrealisable, can_be_divided, controller_text, move_line, strategy_text}
pub use Rattle.dcv_cli.specs.Synthesised.{status_of_synthesis}
pub use Rattle.dcv_cli.specs.declared.budget_line.Excess.{Excess}
pub use Rattle.dcv_cli.specs.declared.budget_line.Excess.TheVariants.{Nodes, States}
pub use Rattle.dcv_cli.specs.declared.budget_line.Over.{Over}
pub use Rattle.dcv_cli.specs.declared.faults.AutomatonFault.TheVariants.{Syntax}
pub use Rattle.dcv_cli.specs.declared.faults.FormulaFault.TheVariants.{Declarations, Outputs}
pub use Rattle.dcv_cli.specs.declared.faults.TraceFault.{TraceFault}
pub use Rattle.dcv_cli.specs.declared.faults.TraceFault.TheVariants.{Line}
pub use Rattle.dcv_cli.specs.declared.refusal.Refusal.{Refusal}
pub use Rattle.dcv_cli.specs.declared.refusal.Refusal.TheVariants.{Budget, Formula, Memory, Open, Product, Trace, Write}
pub use Rattle.dcv_cli.specs.declared.refused.Which.{Which}
pub use Rattle.dcv_cli.specs.declared.refused.Which.TheVariants.{First, Only, Second}
pub use Rattle.dcv_cli.specs.declared.status.Status.{Status}
pub use Rattle.dcv_cli.specs.declared.status.Status.TheVariants.{Automaton as StatusAutomaton, Budget as StatusBudget, Done, Input, Memory as OutOfMemory, NotValid, Output, Usage, Valid}
pub use Rattle.dcv_command.specs.Request.{AreInRange, Certify, Convert, Implies, IsTaken, Replay, Report, Request, Stuck, Sweep, Synth, request_of}
pub use Rattle.dcv_command.specs.declared.words.Subset.{Subset}
pub use Rattle.dcv_command.specs.declared.words.Subset.TheVariants.{C as InC, Lustre as InLustre, Tables as InTables}
pub use Rattle.dcv_command.specs.declared.words.Version.{Version}
pub use Rattle.dcv_core.specs.Core.{CoreTree}
pub use Rattle.dcv_core.specs.Holds.{words_of}
pub use Rattle.dcv_core.specs.Steps.{PlainStep, steps_of}
pub use Rattle.dcv_dfa.specs.Auto.{IsAuto, table_of_states}
pub use Rattle.dcv_dfa.specs.Laws.{TableAcceptsAsTheStates}
pub use Rattle.dcv_dfa.specs.Raw.{IsRaw, RawValue, raw_accepts}
pub use Rattle.dcv_existence.proofs.SomeBudgets.{counts_within}
pub use Rattle.dcv_explore.specs.Budget.{TooManyNodes, TooManyStates}
pub use Rattle.dcv_explore.specs.declared.explorer.Limits.{Limits}
pub use Rattle.dcv_implies.specs.Comparison.{IsIncluded, Least, TooMany, difference, letters_of}
pub use Rattle.dcv_implies.specs.Laws.{NoneWhereIncluded}
pub use Rattle.dcv_io.proofs.Appending.{strict_is_prefix}
pub use Rattle.dcv_io.proofs.Asking.{asks_in_turn}
pub use Rattle.dcv_io.proofs.Putting.{puts_both, puts_same}
pub use Rattle.dcv_io.specs.Asked.{Asks}
pub use Rattle.dcv_io.specs.Disk.{Disk, ReadsPast, WhereTold, held_of}
pub use Rattle.dcv_io.specs.Faults.{RisesIf, has_risen}
pub use Rattle.dcv_io.specs.Putting.{Puts}
pub use Rattle.dcv_io.specs.Written.{Appends, AppendsPrefix, AppendsStrictPrefix}
pub use Rattle.dcv_io.specs.declared.fault.Failed.{Failed}
pub use Rattle.dcv_language.proofs.Canonicals.{canonical_for_same_behaviours}
pub use Rattle.dcv_language.proofs.Words.{WordLaws}
pub use Rattle.dcv_language.specs.Automaton.{accepts}
pub use Rattle.dcv_language.specs.Canonical.{IsCanonical}
pub use Rattle.dcv_language.specs.Language.{HaveSameBehaviours, Language}
pub use Rattle.dcv_language.specs.Laws.{ComplementIsCanonical, OneVerdict, VerdictOfSameBehaviours}
pub use Rattle.dcv_language.specs.Limits.{most_nodes, most_states}
pub use Rattle.dcv_language.specs.Table.{Table, automaton_of, table_accepts}
pub use Rattle.dcv_language.specs.Verdict.{IsLeastOf, IsVerdict, Verdict}
pub use Rattle.dcv_language.specs.VerdictText.{line, verdict_text}
pub use Rattle.dcv_language.specs.declared.count.Count.{Count}
pub use Rattle.dcv_language.specs.declared.kind.Kind.{Kind}
pub use Rattle.dcv_language.specs.declared.kind.Kind.TheVariants.{All, Automaton, C, Check, Lustre, Tables}
pub use Rattle.dcv_logic.specs.Models.{models}
pub use Rattle.dcv_lustre.specs.Observer.{observer_of as node_of}
pub use Rattle.dcv_observer.specs.declared.fault.ObsFault.{ObsFault}
pub use Rattle.dcv_print.specs.Counts.{ArePrintableCounts}
pub use Rattle.dcv_print.specs.Laws.{AutomatonOfSameBehaviours, NodeOfSameBehaviours, OneAutomaton, OneNode, OneTables, OneUnit, PrintedIsAutomaton, PrintedSaysNode, PrintedSaysTables, PrintedSaysUnit, TablesOfSameBehaviours, UnitOfSameBehaviours}
pub use Rattle.dcv_print.specs.Observers.{SaysNode, SaysTables, SaysUnit}
pub use Rattle.dcv_print.specs.Printed.{printed_file, texts_of}
pub use Rattle.dcv_print.specs.Report.{ReportValue, Says as SaysOf}
pub use Rattle.dcv_print.specs.Sections.{all_text}
pub use Rattle.dcv_quotient.proofs.SomeVerdicts.{some_verdict}
pub use Rattle.dcv_quotient.proofs.TableBounds.{IsTableWithin}
pub use Rattle.dcv_reader.specs.Laws.{NamesAreShort}
pub use Rattle.dcv_reader.specs.Spelling.{SpellsOne}
pub use Rattle.dcv_replay.specs.Laws.{GoodLinesAreAnswered, OneText as OneTextOfAnswers, OneVerdict as OneTraceVerdict, SomeVerdict}
pub use Rattle.dcv_replay.specs.Observer.{AreAnswers, KeepsTheRules, Observer, width_of}
pub use Rattle.dcv_replay.specs.TraceText.{good_letters}
pub use Rattle.dcv_scope.proofs.Faulting.{no_bound_shift}
pub use Rattle.dcv_scope.specs.CoreOf.{core_of_file}
pub use Rattle.dcv_scope.specs.Faults.{fault_of_file, fault_of_goal}
pub use Rattle.dcv_scope.specs.Laws.{StepsAreFew, WordsAreModels}
pub use Rattle.dcv_scope.specs.Names.{fault_of_names}
pub use Rattle.dcv_scope.specs.declared.faults.ScopeFault.{ScopeFault}
pub use Rattle.dcv_scope.specs.declared.faults.ScopeFault.TheVariants.{Memory as ScopeMemory}
pub use Rattle.dcv_sentence.specs.declared.faults.ReadFault.{ReadFault}
pub use Rattle.dcv_sentence.specs.declared.faults.ReadFault.TheVariants.{Memory as ReadMemory}
pub use Rattle.dcv_sweep.specs.SummaryText.{summary_text}
pub use Rattle.dcv_syntax.specs.Plain.{PlainFile}
pub use Rattle.dcv_syntax.specs.declared.names.Name.{Name}
pub use Rattle.dcv_synth.specs.Control.{ControlValue, IsControlOf, controller_by}
pub use Rattle.dcv_synth.specs.Game.{Wins}
pub use Rattle.dcv_synth.specs.Laws.{BeatsOverSameBehaviours, ControlsWin, StrategiesBeat, WinsOverSameBehaviours}
pub use Rattle.dcv_synth.specs.Moves.{input_at}
pub use Rattle.dcv_synth.specs.Outcome.{IsUnrealisable}
pub use Rattle.dcv_synth.specs.Play.{environment_of}
pub use Rattle.dcv_synth.specs.Units.{controller_in}
pub use Rattle.dcv_synth.specs.declared.strategy.Strategy.{Strategy}
pub use Rattle.dcv_word.specs.Behaviour.{Word}
pub use Rattle.std.proofs.Common.{Bool, Err, Global, IfErr, IfOk, IfSome, IsFalse, IsSomeAnd, IsTrue, List, None, Ok, OnErr, OnOk, Option, Result, Some, Vec, [], ap, append_assoc, arith, codes, drop, false, get_or, if◌then◌else◌, inl, inr, is_none, is_some, length, length-append, map, nat_le, not, refl, rules, slice_get, subst, suc, sym, take, true, true≢false, zero, ℕ, ◌++◌, ◌+◌, ◌-◌, ◌<◌, ◌↔◌, ◌∙◌, ◌∷◌, ◌≡◌, ◌≢◌, ◌≤◌, ◌⊎◌}
pub use Rattle.std.proofs.Math.Seq.{take-length}
pub use Rattle.std.proofs.lemmas.Bool.{cases_lt, false≢true}
pub use Rattle.std.proofs.lemmas.Bool.Decides.{nat_tests}
pub use Rattle.std.proofs.lemmas.List.{append-nil, length-map, length-take}
pub use Rattle.std.proofs.lemmas.Option.{slice_get-get_or, slice_get_within}
pub use Rattle.std.proofs.lemmas.Result.{err_from_is_err_and}
pub use Rattle.std.proofs.lemmas.Slice.Eq.{bytes_eq-Decides}
pub use Rattle.std.specs.Bool.{OnTrue}
pub use Rattle.std.specs.Fmt.{decimal}
pub use Rattle.std.specs.List.{flat_map}
pub use Rattle.std.specs.Option.{option_map}
pub use Rattle.std.specs.Prelude.{⊤}
pub use Rattle.std.specs.Str.{bytes_eq}
pub use Rattle.std.specs.String.{string_bytes}
