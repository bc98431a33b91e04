-- Which slots a proposition names, and whether a shift stands in it.
--     IsBelow k p        each slot in the proposition is one of the first k
--     OpIsBelow k op     so is each slot in the operator's proposition, where it has one
--     CoreIsBelow k c    so is each slot in the core's propositions, where a quantifier has one slot more in use
--     HasNoShift p       no shift stands in the proposition
--     OpHasNoShift op    nor in the operator's proposition, where it has one
--     CoreHasNoShift c   nor in the core's propositions
use Rattle.std.specs.Prelude.{ℕ, ◌+◌, ◌<◌}
use Rattle.dcv_core.specs.Core.{PlainTruth, TruthConstant, TruthSlot, TruthNot, TruthJoined, TruthShift, PlainTruths, no_truths, truth_operand, PlainBasic, BasicConstant, BasicBracketed, BasicSlen, BasicCounted, BasicTrack}
use Rattle.dcv_core.specs.Core.{CoreTree, CoreAtom, CoreNot, CoreJoined, CoreChop, CoreStar, CoreExists}
use Rattle.dcv_core.specs.Steps.{PlainOp, OpAtom}

abbrev mutual
  pub IsBelow : ℕ → PlainTruth → Type 0
  IsBelow k (TruthConstant truth) = Unit {0}
  IsBelow k (TruthSlot slot) = slot < k
  IsBelow k (TruthNot p) = IsBelow k p
  IsBelow k (TruthJoined connective operands) = AreBelow k operands
  IsBelow k (TruthShift direction p span) = IsBelow k p

  pub AreBelow : ℕ → PlainTruths → Type 0
  AreBelow k no_truths = Unit {0}
  AreBelow k (truth_operand p operands) = IsBelow k p × AreBelow k operands

abbrev pub BasicIsBelow : ℕ → PlainBasic → Type 0
BasicIsBelow k (BasicConstant truth) = Unit {0}
BasicIsBelow k (BasicBracketed bracket p) = IsBelow k p
BasicIsBelow k (BasicSlen relation n) = Unit {0}
BasicIsBelow k (BasicCounted _ p relation n) = IsBelow k p
BasicIsBelow k (BasicTrack direction p slot) = IsBelow k p × (slot < k)

abbrev pub OpIsBelow : ℕ → PlainOp → Type 0
OpIsBelow k (OpAtom basic) = BasicIsBelow k basic
OpIsBelow k op = Unit {0}

abbrev pub CoreIsBelow : ℕ → CoreTree → Type 0
CoreIsBelow k (CoreAtom basic span) = BasicIsBelow k basic
CoreIsBelow k (CoreNot d span) = CoreIsBelow k d
CoreIsBelow k (CoreJoined connective c d span) = CoreIsBelow k c × CoreIsBelow k d
CoreIsBelow k (CoreChop c d span) = CoreIsBelow k c × CoreIsBelow k d
CoreIsBelow k (CoreStar d span) = CoreIsBelow k d
CoreIsBelow k (CoreExists d span) = CoreIsBelow (k + 1) d

-- ---- shifts

abbrev mutual
  pub HasNoShift : PlainTruth → Type 0
  HasNoShift (TruthConstant truth) = Unit {0}
  HasNoShift (TruthSlot slot) = Unit {0}
  HasNoShift (TruthNot p) = HasNoShift p
  HasNoShift (TruthJoined connective operands) = HaveNoShift operands
  HasNoShift (TruthShift direction p span) = ⊥

  pub HaveNoShift : PlainTruths → Type 0
  HaveNoShift no_truths = Unit {0}
  HaveNoShift (truth_operand p operands) = HasNoShift p × HaveNoShift operands

abbrev pub BasicHasNoShift : PlainBasic → Type 0
BasicHasNoShift (BasicConstant truth) = Unit {0}
BasicHasNoShift (BasicBracketed bracket p) = HasNoShift p
BasicHasNoShift (BasicSlen relation n) = Unit {0}
BasicHasNoShift (BasicCounted _ p relation n) = HasNoShift p
BasicHasNoShift (BasicTrack direction p slot) = HasNoShift p

abbrev pub OpHasNoShift : PlainOp → Type 0
OpHasNoShift (OpAtom basic) = BasicHasNoShift basic
OpHasNoShift op = Unit {0}

abbrev pub CoreHasNoShift : CoreTree → Type 0
CoreHasNoShift (CoreAtom basic span) = BasicHasNoShift basic
CoreHasNoShift (CoreNot d span) = CoreHasNoShift d
CoreHasNoShift (CoreJoined connective c d span) = CoreHasNoShift c × CoreHasNoShift d
CoreHasNoShift (CoreChop c d span) = CoreHasNoShift c × CoreHasNoShift d
CoreHasNoShift (CoreStar d span) = CoreHasNoShift d
CoreHasNoShift (CoreExists d span) = CoreHasNoShift d
