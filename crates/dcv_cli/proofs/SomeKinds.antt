-- Each formula file that is within the limits has a right report of each kind: its models have a canonical automaton, and that has a text.
--     some_budgeted    the report of a kind, or the outcome that names the first step that is over the limits
use Rattle.dcv_cli.proofs.Common.{◌≡◌, inl, inr, ℕ, List, [], length, refl, sym, ◌∙◌, arith, length-map, Word, Count, IsCanonical}
use Rattle.dcv_cli.proofs.Common.{HaveSameBehaviours, ComplementIsCanonical, Table, Verdict, IsVerdict, WordLaws, HasFile, AreNames}
use Rattle.dcv_cli.proofs.Common.{IsWithinBudget, AreCounts, MachineAcceptsStep, AreInRange, RawValue, raw_accepts, Limits, models}
use Rattle.dcv_cli.proofs.Common.{ArePrintableCounts, texts_of}
use Rattle.dcv_cli.proofs.Common.{Kind, NamesAreShort, core_of_file, WordsAreModels, StepsAreFew, PlainFile, steps_of_file, IsBudgeted}
use Rattle.dcv_cli.proofs.Common.{WithinBudget, IsFormulaFile, Outcome, IsReport, status_of_verdict, Only, counts_within, some_verdict}
use Rattle.dcv_cli.proofs.Common.{IsTableWithin}
use Rattle.dcv_quotient.proofs.SomeAutomata.{some_automaton}
use Rattle.dcv_cli.proofs.SomeBounds.{within_of_file}
use Rattle.dcv_cli.proofs.SomeReports.{table_of_file, over_or_within}
use Rattle.dcv_cli.proofs.SomeTexts.{PrintLaws, some_text}
use Rattle.dcv_cli.proofs.StepCounts.{printable_counts}
use Rattle.dcv_cli.proofs.VariableNames.{are_names}

-- an automaton of the models of a formula file, with their canonical table
record HasAutomaton (file : PlainFile) : Type 0 where
  table : Table
  access : List Word
  canonical : IsCanonical (length file.variables) (models file) table access
  raw : RawValue
  has_file : HasFile raw (texts_of file.variables)
  slots : raw.arena.slots ≡ length file.variables
  accepts : HaveSameBehaviours (length file.variables) (raw_accepts raw) (models file)

module _ (accept : MachineAcceptsStep) (models_are : WordsAreModels) (short : NamesAreShort)
    (text : List ℕ) (file : PlainFile) (formula : IsFormulaFile text file) (limits : Limits) (range : AreInRange limits)
    (within : IsWithinBudget (steps_of_file file) limits) where
  -- the automaton of a table that is within the limits has a file
  file_of_table : (table : Table) (access : List Word) → IsTableWithin (length file.variables) limits table
      → IsCanonical (length file.variables) (models file) table access → HasAutomaton file
  file_of_table table access few canonical =
      let k = length file.variables in
      let names : AreNames (texts_of file.variables) = are_names short text file formula in
      let size : length (texts_of file.variables) ≡ k = length-map file.variables (λ (name : _). name.text) in
      let (raw, made) = some_automaton k (models file) table access (let count = names.count in omega arith) canonical
      (let states = few.states in let most = range.few_states in omega arith) (let nodes = few.nodes in let most = range.few_nodes in omega arith) in
      record {
        table = table;
        access = access;
        canonical = canonical;
        raw = raw;
        has_file = record {
          is_raw = made.is;
          auto = made.auto;
          are_names = names;
          slots = size ∙ sym made.same_slots;
          states = omega (arith, made.count, few.states, range.few_states);
          nodes = omega (arith, made.nodes, few.nodes, range.few_nodes);
        };
        slots = made.same_slots;
        accepts = made.exact;
      }

  some_file : HasAutomaton file
  some_file =
      let (table, (access, canonical)) = table_of_file models_are limits file formula.has_core within in
      file_of_table table access (within_of_file accept models_are limits file formula.has_core within table access canonical) canonical

  module _ (laws : WordLaws) (outside_is : ComplementIsCanonical) (steps_are_few : StepsAreFew)
      (print : PrintLaws) where
    report_on : (kind : Kind) → HasAutomaton file → (verdict : Verdict) → IsVerdict (length file.variables) (models file) verdict
        → (counts : List Count) → AreCounts (steps_of_file file) limits counts → (outcome : Outcome) × IsReport kind limits file outcome
    report_on kind has verdict is counts are =
        let printable : ArePrintableCounts counts = printable_counts steps_are_few text file formula limits range counts are in
        let (out, says) = some_text print has.raw (texts_of file.variables) has.has_file counts printable
        (length file.variables) (models file) has.slots has.accepts kind verdict in (
          record { status = status_of_verdict verdict; out = out; err = [] },
          record { verdict = verdict; is_verdict = is; status = refl; counts = counts; are_counts = are; says = says; no_message = refl },
        )

    some_report : (kind : Kind) → (outcome : Outcome) × IsReport kind limits file outcome
    some_report kind =
        let has = some_file in
        let (verdict, is) = some_verdict laws outside_is (length file.variables) (models file) has.table has.access has.canonical in
        let (counts, are) = counts_within (length file.variables) (core_of_file file) limits within in
        report_on kind has verdict is counts are

module _ (laws : WordLaws) (accept : MachineAcceptsStep) (outside_is : ComplementIsCanonical) (models_are : WordsAreModels) (short : NamesAreShort)
    (steps_are_few : StepsAreFew) (print : PrintLaws) where
  -- whether the steps are within the limits or not
  pub some_budgeted : (kind : Kind) (limits : Limits) → AreInRange limits → (text : List ℕ) (file : PlainFile) → IsFormulaFile text file
      → (outcome : Outcome) × IsBudgeted limits Only (IsReport kind limits) file outcome
  some_budgeted kind limits range text file formula = elim (over_or_within laws accept limits Only (IsReport kind limits) file) [
    | inl over ↦ over
    | inr within ↦
        let (outcome, is) = some_report accept models_are short text file formula limits range within laws outside_is steps_are_few print kind in
        (outcome, WithinBudget within is)
  ]
