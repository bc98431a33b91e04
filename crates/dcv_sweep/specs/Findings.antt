-- What is found of a formula, and what is counted over many.
--     IsJudgement k L judgement          of a set of behaviours over k variables: whether it is valid, whether it is satisfiable, and how
--                                        many states its canonical table has
--     IsOverSome limits k tree           some step of the formula is the first over the limits
--     IsFinding limits k tree finding    the formula is over the limits, or it is not and this is its judgement
--     summary_of findings                the counts; a formula over the limits is counted as over and as nothing else
--     IsSummary limits seed count        they are the counts over so many formulas, drawn one after another from this seed
use Rattle.std.specs.Prelude.{◌≡◌, ℕ, Bool, true, false, List, length, is_none, is_some, count_by, sum_by}
use Rattle.std.specs.List.{AllZip}
use Rattle.dcv_word.specs.Behaviour.{Word}
use Rattle.dcv_language.specs.Canonical.{IsCanonical}
use Rattle.dcv_language.specs.Language.{Language}
use Rattle.dcv_language.specs.Table.{Table}
use Rattle.dcv_language.specs.Verdict.{Verdict, IsVerdict}
use Rattle.dcv_core.specs.Core.{CoreTree}
use Rattle.dcv_core.specs.Holds.{words_of}
use Rattle.dcv_core.specs.Steps.{steps_of}
use Rattle.dcv_explore.specs.declared.explorer.Limits.{Limits}
use Rattle.dcv_explore.specs.Budget.{Kind}
use Rattle.dcv_build.specs.Budget.{IsWithinBudget, IsOver}
use Rattle.dcv_sweep.specs.DrawnCores.{drawn_formulas}
use Rattle.dcv_sweep.specs.declared.findings.Finding.{Finding}
use Rattle.dcv_sweep.specs.declared.findings.Finding.TheVariants.{Over, Within}
use Rattle.dcv_sweep.specs.declared.findings.Judgement.{Judgement}
use Rattle.dcv_sweep.specs.declared.summary.Summary.{Summary}

-- ---- one formula

pub record IsJudgement (k : ℕ) (L : Language) (judgement : Judgement) : Type 0 where
  pub verdict : Verdict
  pub is_verdict : IsVerdict k L verdict
  pub valid_is : judgement.valid ≡ is_none verdict.counterexample
  pub satisfiable_is : judgement.satisfiable ≡ is_some verdict.example
  pub table : Table
  pub access : List Word
  pub canonical : IsCanonical k L table access
  pub states_are : judgement.states ≡ length table

pub record IsOverSome (limits : Limits) (k : ℕ) (tree : CoreTree) : Type 0 where
  pub kind : Kind
  pub number : ℕ
  pub is_over : IsOver (steps_of k tree) limits kind number

abbrev pub IsFinding : Limits → ℕ → CoreTree → Finding → Type 0
IsFinding limits k tree Over = IsOverSome limits k tree
IsFinding limits k tree (Within judgement) = IsWithinBudget (steps_of k tree) limits × IsJudgement k (words_of tree) judgement

-- ---- many formulas

abbrev pub is_over : Finding → Bool
is_over Over = true
is_over (Within judgement) = false

abbrev pub is_valid : Finding → Bool
is_valid Over = false
is_valid (Within judgement) = judgement.valid

abbrev pub is_satisfiable : Finding → Bool
is_satisfiable Over = false
is_satisfiable (Within judgement) = judgement.satisfiable

abbrev pub states_of : Finding → ℕ
states_of Over = 0
states_of (Within judgement) = judgement.states

abbrev pub summary_of : List Finding → Summary
summary_of findings = record {
  formulas = length findings;
  valid = count_by is_valid findings;
  satisfiable = count_by is_satisfiable findings;
  over = count_by is_over findings;
  states = sum_by states_of findings;
}

-- each of the formulas is over the three declared variables
pub record IsSummary (limits : Limits) (seed count : ℕ) (summary : Summary) : Type 0 where
  pub findings : List Finding
  pub found : AllZip (IsFinding limits 3) (drawn_formulas count seed).made findings
  pub counted : summary ≡ summary_of findings
