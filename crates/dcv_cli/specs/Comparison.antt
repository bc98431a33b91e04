-- What is right where it is asked whether the requirement of one formula file implies that of another.
--     comparison_text least               what is said, by the least behaviour that models the first and not the second
--     IsDifference limits one other o     the outcome says so of two files over the same variables, or that their product is over the limits
--     LeavesComparison first second ..    what was written where an input failed
--     have_same_texts                     for proofs alone
--     IsCompared limits one other o       they have the same variables, both are within the limits, and so it is; or the outcome says what is not
use Rattle.std.specs.Prelude.{◌≡◌, ◌≢◌, ◌↔◌, ℕ, Bool, true, false, ◌&&◌, List, [], ◌∷◌, ◌++◌, ◌+◌, Option, None, Some, length, codes}
use Rattle.dcv_cli.specs.Common.{Word}
use Rattle.dcv_cli.specs.Common.{PlainFile, models, IsLeastOf, line, Limits, texts_of, Excess, Formula, Product, Declarations, Only, First}
use Rattle.dcv_cli.specs.Common.{Second, Asks}
use Rattle.std.specs.Str.{bytes_eq}
use Rattle.dcv_language.specs.VerdictText.{shown}
use Rattle.dcv_implies.specs.Comparison.{difference, IsIncluded, IsProductWithin, IsProductOver}
use Rattle.dcv_cli.specs.Budget.{IsBudgeted, kind_of, limit_of}
use Rattle.dcv_cli.specs.FormulaFile.{IsFormulaFile}
use Rattle.dcv_cli.specs.Held.{Texts}
use Rattle.dcv_cli.specs.Outcome.{Outcome, refused}
use Rattle.dcv_io.specs.Disk.{WhereTold, ReadsAtMost}
use Rattle.dcv_cli.specs.Outside.{Outside}
use Rattle.dcv_cli.specs.Refusal.{most_bytes}
use Rattle.dcv_cli.specs.Status.{status_of_least}

abbrev pub comparison_text : Option Word → List ℕ
comparison_text None = line (codes "implies")
comparison_text (Some word) = line (codes "does not imply") ++ shown (codes "counterexample") (Some word)

abbrev pub compared : Option Word → Outcome
compared least = record { status = status_of_least least; out = comparison_text least; err = [] }

-- There is no such behaviour exactly where each that models the first file models the second.
pub record IsComparison (one other : PlainFile) (outcome : Outcome) : Type 0 where
  pub least : Option Word
  pub is_least : IsLeastOf (length one.variables) (difference (models one) (models other)) least
  pub included : (least ≡ None) ↔ IsIncluded (length one.variables) (models one) (models other)
  pub says : outcome ≡ compared least

pub data IsDifference (limits : Limits) (one other : PlainFile) (outcome : Outcome) : Type 0 where
  OverProduct : (excess : Excess) → IsProductOver limits (length one.variables) (models one) (models other) (kind_of excess)
      → outcome ≡ refused (Product excess (limit_of excess limits)) Only → IsDifference limits one other outcome
  WithinProduct : IsProductWithin limits (length one.variables) (models one) (models other) → IsComparison one other outcome
      → IsDifference limits one other outcome

-- The variables are the same where they have the same names in the same order. Both files are judged before the steps of either are counted.
pub data IsCompared (limits : Limits) (one other : PlainFile) (outcome : Outcome) : Type 0 where
  Undeclared : texts_of one.variables ≢ texts_of other.variables → outcome ≡ refused (Formula Declarations) Only → IsCompared limits one other outcome
  Declared : texts_of one.variables ≡ texts_of other.variables
      → IsBudgeted limits First (λ first. IsBudgeted limits Second (IsDifference limits first) other) one outcome → IsCompared limits one other outcome

-- ---- where an input failed

-- a formula file without a fault is held
pub record HasFormula (formula_text : Option (List ℕ)) : Type 0 where
  pub text : List ℕ
  pub there : formula_text ≡ Some text
  pub file : PlainFile
  pub is : IsFormulaFile text file

-- Nothing was written, and of the file that failed at most one byte past the limit was read. The second file is asked for after a formula file
-- without a fault alone.
pub data LeavesComparison (first second : List ℕ) (held : Texts) (before after : Outside) (bytes : List ℕ) : Type 0 where
  OfFirst : Asks (first ∷ []) before.asked after.asked → WhereTold (ReadsAtMost first (most_bytes + 1)) before.told after.told → bytes ≡ [] → LeavesComparison first second held before after bytes
  OfSecond : Asks (first ∷ second ∷ []) before.asked after.asked → WhereTold (ReadsAtMost second (most_bytes + 1)) before.told after.told
      → HasFormula (held 0 first) → bytes ≡ [] → LeavesComparison first second held before after bytes

-- for proofs alone: whether two lists of texts are the same
abbrev pub have_same_texts : List (List ℕ) → List (List ℕ) → Bool
have_same_texts [] [] = true
have_same_texts (text ∷ texts) (other ∷ others) = bytes_eq text other && have_same_texts texts others
have_same_texts _ _ = false
