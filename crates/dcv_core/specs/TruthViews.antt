-- The propositions and forms of the code as those of `Core`.
use Rattle.std.specs.Prelude.{List, [], ◌∷◌}
use Rattle.dcv_core.specs.declared.truths.Truth.{Truth, Constant, Slot, Not', Joined', Shift'}
use Rattle.dcv_core.specs.declared.truths.Truth.TheBlock.{Row_of-Truth, end_of-Truth, more_of-Truth}
use Rattle.dcv_core.specs.declared.truths.Basic.{Basic}
use Rattle.dcv_core.specs.declared.truths.Basic.TheVariants.{Constant as ConstantForm, Bracketed, Slen, Counted, Track}
use Rattle.dcv_core.specs.Core.{PlainTruth, TruthConstant, TruthSlot, TruthNot, TruthJoined, TruthShift, PlainTruths, no_truths, truth_operand}
use Rattle.dcv_core.specs.Core.{PlainBasic, BasicConstant, BasicBracketed, BasicSlen, BasicCounted, BasicTrack}

abbrev mutual
  pub plain_truth : Truth → PlainTruth
  plain_truth (Constant truth) = TruthConstant truth
  plain_truth (Slot slot) = TruthSlot slot
  plain_truth (Not' pointer operand) = TruthNot (plain_truth operand)
  plain_truth (Joined' connective shape operands) = TruthJoined connective (plain_truths operands)
  plain_truth (Shift' direction pointer operand span) = TruthShift direction (plain_truth operand) span

  pub plain_truths : {m : _} → Row_of-Truth m → PlainTruths
  plain_truths end_of-Truth = no_truths
  plain_truths (more_of-Truth truth operands) = truth_operand (plain_truth truth) (plain_truths operands)

-- a list of operands
abbrev pub truths_of : List PlainTruth → PlainTruths
truths_of [] = no_truths
truths_of (p ∷ truths) = truth_operand p (truths_of truths)

abbrev pub plain_basic : Basic → PlainBasic
plain_basic (ConstantForm truth) = BasicConstant truth
plain_basic (Bracketed bracket p) = BasicBracketed bracket (plain_truth p)
plain_basic (Slen relation number) = BasicSlen relation number
plain_basic (Counted count p relation number) = BasicCounted count (plain_truth p) relation number
plain_basic (Track direction p slot) = BasicTrack direction (plain_truth p) slot
