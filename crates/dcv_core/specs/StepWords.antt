-- The words of a step are an operation of `dcv_language` on the words of its operands.
--     basic_words          the set of a form without a formula in it
--     joined_words         the operation of a connective
--     TakesOne             a step whose one operand is the step before it
--     TakesTwo             a step whose second operand is the step before it, and whose first ends where the second's steps begin
--     IsOperation          what the words of a step are, by its operator
use Rattle.std.specs.Prelude.{◌≡◌, ℕ, suc, ◌+◌, List, Some}
use Rattle.std.specs.List.{slice_get}
use Rattle.dcv_logic.specs.Satisfaction.{compares}
use Rattle.dcv_language.specs.Language.{Language, outside, HaveSameBehaviours}
use Rattle.dcv_language.specs.Operations.{intersection, union, agreement, chop, star, projection}
use Rattle.dcv_language.specs.Atoms.{constant, point, run, every, unit, slen, scount, sdur}
use Rattle.dcv_shifts.specs.Shifts.{back, fore}
use Rattle.dcv_syntax.specs.declared.propositions.Connective.{Connective}
use Rattle.dcv_syntax.specs.declared.propositions.Connective.TheVariants.{And, Or, Iff}
use Rattle.dcv_syntax.specs.declared.propositions.Direction.TheVariants.{Prior, Next}
use Rattle.dcv_syntax.specs.declared.formulas.Bracket.TheVariants.{Point, Run, Every, Unit as TwoInstants}
use Rattle.dcv_syntax.specs.declared.formulas.Count.TheVariants.{Scount, Sdur}
use Rattle.dcv_core.specs.Core.{PlainBasic, BasicConstant, BasicBracketed, BasicSlen, BasicCounted, BasicTrack, TruthSlot}
use Rattle.dcv_core.specs.Holds.{truth_holds, words_of}
use Rattle.dcv_core.specs.Steps.{PlainOp, OpAtom, OpNot, OpJoined, OpChop, OpStar, OpExists, PlainStep, steps_before}

abbrev pub basic_words : PlainBasic → Language
basic_words (BasicConstant truth) = constant truth
basic_words (BasicBracketed Point p) = point (truth_holds p)
basic_words (BasicBracketed Run p) = run (truth_holds p)
basic_words (BasicBracketed Every p) = every (truth_holds p)
basic_words (BasicBracketed TwoInstants p) = unit (truth_holds p)
basic_words (BasicSlen relation n) = slen (λ steps. compares relation steps n)
basic_words (BasicCounted Scount p relation n) = scount (truth_holds p) (λ count. compares relation count n)
basic_words (BasicCounted Sdur p relation n) = sdur (truth_holds p) (λ count. compares relation count n)
basic_words (BasicTrack Prior p slot) = back (truth_holds p) (truth_holds (TruthSlot slot))
basic_words (BasicTrack Next p slot) = fore (truth_holds p) (truth_holds (TruthSlot slot))

abbrev pub joined_words : Connective → Language → Language → Language
joined_words And = intersection
joined_words Or = union
joined_words Iff = agreement

-- step n has this operand, which is over so many slots, and its words are the operation on the operand's
pub record TakesOne (steps : List PlainStep) (n : ℕ) (step : PlainStep) (operand slots : ℕ) (operation : Language → Language) : Type 0 where
  pub step_before : PlainStep
  pub is_there : slice_get steps operand ≡ Some step_before
  pub is_before : suc operand ≡ n
  pub width : step_before.slots ≡ slots
  pub words : HaveSameBehaviours step.slots (words_of step.core) (operation (words_of step_before.core))

-- step n has these two operands, over as many slots as itself
pub record TakesTwo (steps : List PlainStep) (n : ℕ) (step : PlainStep) (first second : ℕ) (operation : Language → Language → Language) : Type 0 where
  pub first_step : PlainStep
  pub second_step : PlainStep
  pub first_is_there : slice_get steps first ≡ Some first_step
  pub second_is_there : slice_get steps second ≡ Some second_step
  pub first_is_before : suc first + steps_before second_step.core ≡ second
  pub second_is_before : suc second ≡ n
  pub first_width : first_step.slots ≡ step.slots
  pub second_width : second_step.slots ≡ step.slots
  pub words : HaveSameBehaviours step.slots (words_of step.core) (operation (words_of first_step.core) (words_of second_step.core))

abbrev pub IsOperation : List PlainStep → ℕ → PlainStep → PlainOp → Type 0
IsOperation steps n step (OpAtom basic) = HaveSameBehaviours step.slots (words_of step.core) (basic_words basic)
IsOperation steps n step (OpNot d) = TakesOne steps n step d step.slots outside
IsOperation steps n step (OpJoined connective c d) = TakesTwo steps n step c d (joined_words connective)
IsOperation steps n step (OpChop c d) = TakesTwo steps n step c d chop
IsOperation steps n step (OpStar d) = TakesOne steps n step d step.slots star
IsOperation steps n step (OpExists d) = TakesOne steps n step d (suc step.slots) projection
