-- Formula files of which each implies the other mean the same.
use Rattle.dcv_cli.proofs.Common.{◌≡◌, ℕ, List, length, Option, None, Some, refl, sym, ap, ◌∙◌, subst, IsSomeAnd, Word}
use Rattle.dcv_cli.proofs.Common.{PlainFile, models, Limits, IsIncluded, texts_of, SpellsOne, OverBudget, WithinBudget, limit_of}
use Rattle.dcv_cli.proofs.Common.{IsCompared, Undeclared, Declared, OverProduct, WithinProduct, compared, status_of_least, IsFormulaFile}
use Rattle.dcv_cli.proofs.Common.{OnText, Refused, Read, OnHeld, Outcome, refused, is_answer, Refusal, Formula, Budget, Product}
use Rattle.dcv_cli.proofs.Common.{Declarations, Which, Only, First, Second, Valid, NotValid}
use Rattle.dcv_implies.specs.Laws.{IncludedBothWays}
use Rattle.dcv_cli.proofs.Comparisons.{count_same}
use Rattle.dcv_cli.proofs.FormulaFiles.{one_file}
use Rattle.dcv_cli.specs.Comparison.{IsComparison}
use Rattle.dcv_cli.specs.Laws.{Implied, ImpliesBothWays}
use Rattle.dcv_cli.proofs.EqualMeanings.{no_refusal_answers}

-- what it is to be implied, of the files that the texts spell
record Includes (first second : List ℕ) : Type 0 where
  file : PlainFile
  other_file : PlainFile
  formula : IsFormulaFile first file
  other_formula : IsFormulaFile second other_file
  same : texts_of file.variables ≡ texts_of other_file.variables
  included : IsIncluded (length file.variables) (models file) (models other_file)

-- no refusal is this answer
pub no_refusal : (refusal : Refusal) (which : Which) (outcome : Outcome) → outcome ≡ refused refusal which → outcome.status ≡ Valid → ⊥
no_refusal refusal which outcome e valid = no_refusal_answers refusal (ap is_answer (sym (ap (λ (o : Outcome). o.status) e) ∙ valid))

pub status_is : (outcome other : Outcome) → outcome ≡ other → outcome.status ≡ Valid → other.status ≡ Valid
status_is outcome other e valid = sym (ap (λ (o : Outcome). o.status) e) ∙ valid

pub valid_is_none : (least : Option Word) → status_of_least least ≡ Valid → least ≡ None
valid_is_none None is = refl
valid_is_none (Some word) is = let wrong : NotValid ≡ Valid = is in cc

comparison_includes : (one other : PlainFile) (outcome : Outcome) → IsComparison one other outcome → outcome.status ≡ Valid
    → IsIncluded (length one.variables) (models one) (models other)
comparison_includes one other outcome is valid =
    is.included.0 (valid_is_none is.least (status_is outcome (compared is.least) is.says valid))

module _ (first second : List ℕ) (limits : Limits) (outcome : Outcome) (valid : outcome.status ≡ Valid) where
  compared_includes : (one other : PlainFile) → IsFormulaFile first one → IsFormulaFile second other → IsCompared limits one other outcome → Includes first second
  compared_includes one other formula other_formula (Undeclared differ e) = absurd (no_refusal (Formula Declarations) Only outcome e valid)
  compared_includes one other formula other_formula (Declared same (OverBudget over is e)) = absurd (no_refusal (Budget over) First outcome e valid)
  compared_includes one other formula other_formula (Declared same (WithinBudget within (OverBudget over is e))) =
      absurd (no_refusal (Budget over) Second outcome e valid)
  compared_includes one other formula other_formula (Declared same (WithinBudget within (WithinBudget within' (OverProduct excess over e)))) =
      absurd (no_refusal (Product excess (limit_of excess limits)) Only outcome e valid)
  compared_includes one other formula other_formula (Declared same (WithinBudget within (WithinBudget within' (WithinProduct product is)))) =
      record {
        file = one;
        other_file = other;
        formula = formula;
        other_formula = other_formula;
        same = same;
        included = comparison_includes one other outcome is valid;
      }

  second_includes : (one : PlainFile) → IsFormulaFile first one → OnText second Second (IsCompared limits one) outcome → Includes first second
  second_includes one formula (Refused refusal is e) = absurd (no_refusal refusal Second outcome e valid)
  second_includes one formula (Read other is compared) = compared_includes one other formula is compared

  first_includes : (found : Option (List ℕ)) → found ≡ Some second
      → OnText first First (λ one o. IsSomeAnd found (λ text. OnText text Second (IsCompared limits one) o)) outcome → Includes first second
  first_includes found there (Refused refusal is e) = absurd (no_refusal refusal First outcome e valid)
  first_includes found there (Read one is compared) =
      second_includes one is (subst (λ text. IsSomeAnd text (λ text. OnText text Second (IsCompared limits one) outcome)) there compared)

includes : (first second : List ℕ) → Implied first second → Includes first second
includes first second is =
    first_includes first second is.limits is.outcome is.valid (is.held 1 is.other_name) is.second_there
    (subst (λ text. IsSomeAnd text (λ text. OnText text First (λ one. OnHeld (is.held 1) is.other_name (λ text. OnText text Second (IsCompared is.limits one))) is.outcome))
    is.first_there is.right)

module _ (one_tree : SpellsOne) (both : IncludedBothWays) where
  pub implies_both_ways : ImpliesBothWays
  implies_both_ways first second forth back =
      let there = includes first second forth in
      let here = includes second first back in
      let file : here.other_file ≡ there.file = one_file one_tree first here.other_file there.file here.other_formula there.formula in
      let other : here.file ≡ there.other_file = one_file one_tree second here.file there.other_file here.formula there.other_formula in
      let count = count_same there.other_file.variables there.file.variables (sym there.same) in
      let moved : IsIncluded (length there.other_file.variables) (models there.other_file) (models there.file) =
      subst (λ (f : PlainFile). IsIncluded (length there.other_file.variables) (models there.other_file) (models f)) file
      (subst (λ (f : PlainFile). IsIncluded (length f.variables) (models f) (models here.other_file)) other here.included) in
      let included : IsIncluded (length there.file.variables) (models there.other_file) (models there.file) =
      subst (λ k. IsIncluded k (models there.other_file) (models there.file)) count moved in
      record {
        file = there.file;
        other_file = there.other_file;
        formula = there.formula;
        other_formula = there.other_formula;
        mean = record {
          same_names = there.same;
          same_models = both (length there.file.variables) (models there.file) (models there.other_file) there.included included;
        };
      }
