-- The report on an automaton is that on each set whose canonical automaton it is.
use Rattle.dcv_cli.proofs.Common.{ℕ, List, Result, Ok, Err, sym, subst, IfOk, Language, VerdictOfSameBehaviours, Verdict}
use Rattle.dcv_cli.proofs.Common.{IsVerdict, TableAcceptsAsTheStates, RawValue, raw_accepts, IsAutomatonOf}
use Rattle.dcv_cli.proofs.Common.{Count, ArePrintableCounts}
use Rattle.dcv_cli.proofs.Common.{ReportValue, SaysOf, Kind, Check, Automaton, Lustre, C, Tables, All, SaysAutomaton}
use Rattle.dcv_cli.proofs.Common.{Reports, Says}
use Rattle.dcv_language.specs.Language.{HaveSameBehaviours}
use Rattle.dcv_print.specs.Laws.{IsPrintable}
use Rattle.dcv_print.specs.Report.{SpellsAutomaton}
use Rattle.dcv_cli.proofs.Budgets.{same_as_set}
use Rattle.dcv_cli.proofs.SomeTexts.{PrintLaws, says_node, says_unit, says_tables, says_automaton}

module _ (print : PrintLaws) (move_verdict : VerdictOfSameBehaviours) (accept : TableAcceptsAsTheStates)
    (raw : RawValue) (names : List (List ℕ)) (counts : List Count) (printable : IsPrintable raw names) (few : ArePrintableCounts counts) (k : ℕ) (L : Language) (of : IsAutomatonOf k L raw) where
  accepts : HaveSameBehaviours k (raw_accepts raw) L
  accepts = same_as_set accept raw printable.is_raw printable.auto k L of

  says_spelled : (text : List ℕ) → SpellsAutomaton raw names counts text → SaysAutomaton k L names counts text
  says_spelled text spells =
      subst (SaysAutomaton k L names counts) (sym spells.says)
      (says_automaton print raw names printable counts few k L of.slots accepts spells.access spells.suffixes spells.proof)

  says_kind : (kind : Kind) (report : ReportValue) → SaysOf kind raw names counts report → Says kind k L names counts report.verdict report.text
  says_kind Check report says = says
  says_kind Automaton report says = says_spelled report.text says
  says_kind Lustre report says = says_node print raw names printable counts few k L of.slots accepts report.text says
  says_kind C report says = says_unit print raw names printable counts few k L of.slots accepts report.text says
  says_kind Tables report says = says_tables print raw names printable counts few k L of.slots accepts report.text says
  says_kind All report says = record {
    automaton = says.automaton;
    node = says.node;
    unit = says.unit;
    says_automaton = says_spelled says.automaton says.spells_automaton;
    says_node = says_node print raw names printable counts few k L of.slots accepts says.node says.is_node;
    says_unit = says_unit print raw names printable counts few k L of.slots accepts says.unit says.is_unit;
    says = says.says;
  }

  verdict_of_set : (verdict : Verdict) → IsVerdict raw.arena.slots (raw_accepts raw) verdict → IsVerdict k L verdict
  verdict_of_set verdict is = move_verdict k (raw_accepts raw) L verdict accepts (subst (λ k. IsVerdict k (raw_accepts raw) verdict) of.slots is)

  pub report_answers : {E : Type 0} (kind : Kind) (result : Result ReportValue E)
      → IfOk result (λ report. IsVerdict raw.arena.slots (raw_accepts raw) report.verdict) → IfOk result (SaysOf kind raw names counts)
      → IfOk result (Reports kind k L names counts)
  report_answers kind (Ok report) verdict says = record { verdict = verdict_of_set report.verdict verdict; says = says_kind kind report says }
  report_answers kind (Err e) verdict says = tt
