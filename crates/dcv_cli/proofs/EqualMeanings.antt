-- Files that mean the same have the same verdict, the same observers, and the same automaton up to its last access word.
use Rattle.dcv_cli.proofs.Common.{◌≡◌, ℕ, List, length, Option, sym, ap, ◌∙◌, subst, IsTrue, IsSomeAnd, true≢false, OneVerdict}
use Rattle.dcv_cli.proofs.Common.{VerdictOfSameBehaviours, IsVerdict, models, OneAutomaton, AutomatonOfSameBehaviours, NodeOfSameBehaviours}
use Rattle.dcv_cli.proofs.Common.{UnitOfSameBehaviours, TablesOfSameBehaviours, OneNode, OneUnit, OneTables, Kind, texts_of, SpellsOne, PlainFile, Limits, Refusal, Open, Budget}
use Rattle.dcv_cli.proofs.Common.{Status, StatusBudget, IsBudgeted, OverBudget, WithinBudget, IsFormulaFile, OnText, Refused, Read, Texts}
use Rattle.dcv_cli.proofs.Common.{Outcome, status_of, Only, Says, IsReport, is_answer, status_of_verdict}
use Rattle.dcv_cli.specs.Laws.{IsAnswer, EqualMeanings}
use Rattle.dcv_cli.proofs.Comparisons.{count_same}
use Rattle.dcv_cli.proofs.FormulaFiles.{one_file}
use Rattle.dcv_cli.proofs.Texts.{one_meaning, says_of_same}

-- no refusal answers
pub no_refusal_answers : (refusal : Refusal) → IsTrue (is_answer (status_of refusal)) → ⊥
no_refusal_answers Open is = true≢false (sym is)
no_refusal_answers _ is = true≢false (sym is)

answers_as : (outcome : Outcome) (status : Status) → outcome.status ≡ status → IsTrue (is_answer outcome.status) → IsTrue (is_answer status)
answers_as outcome status is answers = subst (λ (s : Status). IsTrue (is_answer s)) is answers

-- a report on the file of the text
pub record IsReported (kind : Kind) (limits : Limits) (text : List ℕ) (outcome : Outcome) : Type 0 where
  pub file : PlainFile
  pub formula : IsFormulaFile text file
  pub report : IsReport kind limits file outcome

pub reported : (kind : Kind) (limits : Limits) (text : List ℕ) (outcome : Outcome) → IsTrue (is_answer outcome.status)
    → OnText text Only (IsBudgeted limits Only (IsReport kind limits)) outcome → IsReported kind limits text outcome
reported kind limits text outcome answers (Refused refusal is e) =
    absurd (no_refusal_answers refusal (answers_as outcome (status_of refusal) (ap (λ (o : Outcome). o.status) e) answers))
reported kind limits text outcome answers (Read file is (OverBudget over first e)) =
    absurd (no_refusal_answers (Budget over) (answers_as outcome StatusBudget (ap (λ (o : Outcome). o.status) e) answers))
reported kind limits text outcome answers (Read file is (WithinBudget within report)) = record { file = file; formula = is; report = report }

report_of : SpellsOne → (kind : Kind) (name : List ℕ) (limits : Limits) (held : Texts) (file : PlainFile) (outcome : Outcome)
    → IsAnswer kind name limits held file outcome → IsReport kind limits file outcome
report_of one_tree kind name limits held file outcome is =
    let found = reported kind limits is.text outcome is.answers
    (subst (λ (text : Option (List ℕ)). IsSomeAnd text (λ bytes. OnText bytes Only (IsBudgeted limits Only (IsReport kind limits)) outcome)) is.there is.right) in
    subst (λ (f : PlainFile). IsReport kind limits f outcome) (one_file one_tree is.text found.file file found.formula is.formula) found.report

module _ (one_tree : SpellsOne) (one_verdict : OneVerdict) (move_verdict : VerdictOfSameBehaviours) (one_automaton : OneAutomaton) (move : AutomatonOfSameBehaviours)
    (one_node : OneNode) (one_unit : OneUnit) (one_tables : OneTables) (move_node : NodeOfSameBehaviours) (move_unit : UnitOfSameBehaviours)
    (move_tables : TablesOfSameBehaviours) where
  pub equal_meanings : EqualMeanings
  equal_meanings kind name other_name limits other_limits held other_held file other_file one another mean answer other_answer =
      let r = report_of one_tree kind name limits held file one answer in
      let s = report_of one_tree kind other_name other_limits other_held other_file another other_answer in
      let count = count_same other_file.variables file.variables (sym mean.same_names) in
      let moved = move_verdict (length file.variables) (models file) (models other_file) r.verdict mean.same_models r.is_verdict in
      let same : r.verdict ≡ s.verdict =
      one_verdict (length file.variables) (models other_file) r.verdict s.verdict moved (subst (λ k. IsVerdict k (models other_file) s.verdict) count s.is_verdict) in
      let says =
      says_of_same move move_node move_unit move_tables (length file.variables) (models file) (models other_file) (texts_of file.variables) r.counts mean.same_models r.verdict one.out kind r.says in
      let other_says =
      subst (λ (names : List (List ℕ)). Says kind (length file.variables) (models other_file) names s.counts s.verdict another.out) (sym mean.same_names)
      (subst (λ k. Says kind k (models other_file) (texts_of other_file.variables) s.counts s.verdict another.out) count s.says) in
      record {
        status = r.status ∙ ap status_of_verdict same ∙ sym s.status;
        report =
            one_meaning one_automaton one_node one_unit one_tables (length file.variables) (models other_file) (texts_of file.variables) r.verdict s.verdict r.counts s.counts one.out another.out kind same says other_says;
        message = r.no_message ∙ sym s.no_message;
      }
