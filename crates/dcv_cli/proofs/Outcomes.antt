-- How each step of a command leads to a right outcome.
use Rattle.dcv_cli.proofs.Common.{◌≡◌, ◌≢◌, ℕ, ◌≤◌, List, [], length, Option, Some, Err, refl, ap, subst, OnTrue, Bool, true}
use Rattle.dcv_cli.proofs.Common.{false, IsTrue, is_none, if◌then◌else◌, Disk, PlainFile, models, Language, Verdict, Name, ReadFault}
use Rattle.dcv_cli.proofs.Common.{ReadMemory, fault_of_file, ScopeFault, ScopeMemory, Refusal, Budget, Memory, PlainStep, Limits}
use Rattle.dcv_cli.proofs.Common.{IsAutomatonOf, ReportValue, Texts, OnHeld, ForHeld, IsHeldText, OfHeldText, IsBuilt, Built, Reports, steps_of_file}
use Rattle.dcv_cli.proofs.Common.{NamesFirstOver, IsBudgeted, OverBudget, WithinBudget, Says, IsReport, IsRefused, Faulty, HasNoCore}
use Rattle.dcv_cli.proofs.Common.{IsSentence, IsFormulaFile, OnText, Refused, Read, Outcome, IsExplained, most_bytes, status_of}
use Rattle.dcv_cli.proofs.Common.{is_of_text, refusal_of_reading, refusal_of_scope, Which, Answers, Stream, only, verdict_text, Check, core_of_file}
use Rattle.dcv_cli.proofs.Common.{counts_within, Only, Kind as ReportKind, texts_of, Valid, NotValid, is_answer, is_determined}
use Rattle.dcv_cli.proofs.Common.{status_of_verdict}
use Rattle.dcv_sentence.specs.Faults.{IsFirstFault}
use Rattle.dcv_cli.specs.ReadFile.{IsDecided}
use Rattle.dcv_cli.proofs.ThreeEnds.{explains_first, fulfils_first}
use Rattle.dcv_cli.proofs.ThreeEnds.{answers_only}

-- ---- for a text

-- a refusal of the reader is right
pub explains_reading : (text : List ℕ) (fault : ReadFault) → length text ≤ most_bytes → (fault ≢ ReadMemory → IsFirstFault text fault)
    → OnTrue (is_determined (status_of (refusal_of_reading fault))) (IsRefused text (refusal_of_reading fault))
explains_reading text ReadMemory short is = tt
explains_reading text fault short is = Faulty short fault (is (λ e. cc)) refl

-- a refusal of the names or of the goal is right
pub explains_scope : (text : List ℕ) (file : PlainFile) (fault : ScopeFault) → IsSentence text file → (fault ≢ ScopeMemory → fault_of_file file ≡ Some fault)
    → OnTrue (is_determined (status_of (refusal_of_scope fault))) (IsRefused text (refusal_of_scope fault))
explains_scope text file ScopeMemory holds is = tt
explains_scope text file fault holds is = HasNoCore file holds fault (is (λ e. cc)) refl

-- a step that is over the limits is named
pub explains_over : (limits : Limits) (which : Which) (RightFor : PlainFile → Outcome → Type 0) (file : PlainFile) (refusal : Refusal)
    → NamesFirstOver (steps_of_file file) limits refusal → IsExplained (IsBudgeted limits which RightFor file) which refusal
explains_over limits which RightFor file (Budget over) is = OverBudget over is refl
explains_over limits which RightFor file Memory is = tt
explains_over limits which RightFor file _ is = absurd is

-- and is a refusal of the text
pub over_is_of_text : (steps : List PlainStep) (limits : Limits) (refusal : Refusal) → NamesFirstOver steps limits refusal → IsTrue (is_of_text refusal)
over_is_of_text steps limits (Budget over) is = refl
over_is_of_text steps limits Memory is = refl
over_is_of_text steps limits _ is = absurd is

pub answers_over : {limits : Limits} {RightFor : PlainFile → Outcome → Type 0} (file : PlainFile) (refusal : Refusal) → NamesFirstOver (steps_of_file file) limits refusal
    → (out : Stream) → Answers (IsBudgeted limits Only RightFor file) (Err (only refusal)) out out
answers_over {limits} {RightFor} file refusal is =
    answers_only (IsBudgeted limits Only RightFor file) refusal (over_is_of_text (steps_of_file file) limits refusal is) (explains_over limits Only RightFor file refusal is)

-- the verdict of the file
pub answers_verdict : (limits : Limits) (file : PlainFile) (report : ReportValue) {verdict : Verdict} → report.verdict ≡ verdict → report.text ≡ verdict_text verdict
    → IsDecided file limits verdict → IsBudgeted limits Only (IsReport Check limits) file (record { status = status_of_verdict report.verdict; out = report.text; err = [] })
answers_verdict limits file report {verdict} same says decided =
    let (counts, are) = counts_within (length file.variables) (core_of_file file) limits decided.within in
    WithinBudget decided.within (record {
      verdict = verdict;
      is_verdict = decided.verdict;
      status = ap status_of_verdict same;
      counts = counts;
      are_counts = are;
      says = says;
      no_message = refl;
    })

-- what was built, and the report on it
pub answers_report : (kind : ReportKind) (limits : Limits) (file : PlainFile) (names : List Name) (built : Built) (report : ReportValue) → names ≡ file.variables → IsBuilt file limits built
    → ((k : ℕ) (L : Language) → IsAutomatonOf k L built.auto → Reports kind k L (texts_of names) built.counts.items report)
    → IsBudgeted limits Only (IsReport kind limits) file (record { status = status_of_verdict report.verdict; out = report.text; err = [] })
answers_report kind limits file names built report same is reports =
    let said = reports (length file.variables) (models file) is.automaton in
    WithinBudget is.within (record {
      verdict = report.verdict;
      is_verdict = said.verdict;
      status = refl;
      counts = built.counts.items;
      are_counts = is.counts;
      says = subst (λ (names : List Name). Says kind (length file.variables) (models file) (texts_of names) built.counts.items report.verdict report.text) same said.says;
      no_message = refl;
    })

-- such a run answers
pub answer_of_verdict : (verdict : Verdict) → IsTrue (is_answer (status_of_verdict verdict))
answer_of_verdict verdict = by (is_none verdict.counterexample)
  where
    by : (none : Bool) → IsTrue (is_answer (if none then Valid else NotValid))
    by true = refl
    by false = refl

-- ---- for a file

module _ (told : Option Disk) (name : List ℕ) (which : Which) where
  -- so it is right, whatever is right for a formula file
  pub explains_file : (RightFor : Texts → PlainFile → Outcome → Type 0) (refusal : Refusal) → OnTrue (is_determined (status_of refusal)) (OfHeldText told name (λ text. IsRefused text refusal))
      → IsExplained (λ outcome. ForHeld told (λ held. OnHeld (held 0) name (λ text. OnText text which (RightFor held)) outcome)) which refusal
  explains_file RightFor refusal refused_so =
      explains_first told name (λ held text. OnText text which (RightFor held)) which refusal (λ text. IsRefused text refusal) (λ held text is. Refused refusal is refl) refused_so

  -- what is right for the formula file is right for the file of the name
  pub fulfils_file : (RightFor : Texts → PlainFile → Outcome → Type 0) (text : List ℕ) (file : PlainFile) (outcome : Outcome) → IsHeldText told name text → IsFormulaFile text file
      → ((held : Texts) → RightFor held file outcome) → ForHeld told (λ held. OnHeld (held 0) name (λ text. OnText text which (RightFor held)) outcome)
  fulfils_file RightFor text file outcome there formula right =
      fulfils_first told name text (λ held text. OnText text which (RightFor held)) outcome there (λ held. Read file formula (right held))
