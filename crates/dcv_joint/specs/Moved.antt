-- A core over other slots: those of its own names go to their places in the joint list, and those of shifts and quantifiers after the joint names.
--     moved_slot places width slot       where a slot goes, where the own names have these places among so many names
--     moved_slots places width slots     how many slots are then in use, of so many
--     moved_core joint own tree          the core over the joint names
use Rattle.std.specs.Prelude.{ℕ, ◌+◌, ◌-◌, List, length, map, slice_index_or}
use Rattle.dcv_core.specs.Core.{PlainTruth, TruthConstant, TruthSlot, TruthNot, TruthJoined, TruthShift, PlainTruths, no_truths, truth_operand}
use Rattle.dcv_core.specs.Core.{PlainBasic, BasicConstant, BasicBracketed, BasicSlen, BasicCounted, BasicTrack}
use Rattle.dcv_core.specs.Core.{CoreTree, CoreAtom, CoreNot, CoreJoined, CoreChop, CoreStar, CoreExists}
use Rattle.dcv_core.specs.Steps.{PlainOp, OpAtom, CoreStep}
use Rattle.dcv_joint.specs.Names.{place_of}

abbrev pub moved_slots : List ℕ → ℕ → ℕ → ℕ
moved_slots places width slots = width + (slots - length places)

abbrev pub moved_slot : List ℕ → ℕ → ℕ → ℕ
moved_slot places width slot = slice_index_or places slot (moved_slots places width slot)

abbrev mutual
  pub moved_truth : List ℕ → ℕ → PlainTruth → PlainTruth
  moved_truth places width (TruthConstant truth) = TruthConstant truth
  moved_truth places width (TruthSlot slot) = TruthSlot (moved_slot places width slot)
  moved_truth places width (TruthNot p) = TruthNot (moved_truth places width p)
  moved_truth places width (TruthJoined connective operands) = TruthJoined connective (all_moved places width operands)
  moved_truth places width (TruthShift direction p span) = TruthShift direction (moved_truth places width p) span

  pub all_moved : List ℕ → ℕ → PlainTruths → PlainTruths
  all_moved places width no_truths = no_truths
  all_moved places width (truth_operand p operands) = truth_operand (moved_truth places width p) (all_moved places width operands)

abbrev pub moved_basic : List ℕ → ℕ → PlainBasic → PlainBasic
moved_basic places width (BasicConstant truth) = BasicConstant truth
moved_basic places width (BasicBracketed bracket p) = BasicBracketed bracket (moved_truth places width p)
moved_basic places width (BasicSlen relation n) = BasicSlen relation n
moved_basic places width (BasicCounted which p relation n) = BasicCounted which (moved_truth places width p) relation n
moved_basic places width (BasicTrack direction p slot) = BasicTrack direction (moved_truth places width p) (moved_slot places width slot)

abbrev pub moved_tree : List ℕ → ℕ → CoreTree → CoreTree
moved_tree places width (CoreAtom basic span) = CoreAtom (moved_basic places width basic) span
moved_tree places width (CoreNot d span) = CoreNot (moved_tree places width d) span
moved_tree places width (CoreJoined connective c d span) = CoreJoined connective (moved_tree places width c) (moved_tree places width d) span
moved_tree places width (CoreChop c d span) = CoreChop (moved_tree places width c) (moved_tree places width d) span
moved_tree places width (CoreStar d span) = CoreStar (moved_tree places width d) span
moved_tree places width (CoreExists d span) = CoreExists (moved_tree places width d) span

abbrev pub places_of : List (List ℕ) → List (List ℕ) → List ℕ
places_of joint own = map (place_of joint) own

abbrev pub moved_core : List (List ℕ) → List (List ℕ) → CoreTree → CoreTree
moved_core joint own tree = moved_tree (places_of joint own) (length joint) tree

-- ---- the steps of a core

abbrev pub moved_op : List ℕ → ℕ → PlainOp → PlainOp
moved_op places width (OpAtom basic) = OpAtom (moved_basic places width basic)
moved_op places width op = op

abbrev pub moved_step : List ℕ → ℕ → CoreStep → CoreStep
moved_step places width step = record { op = moved_op places width step.op; span = step.span; slots = moved_slots places width step.slots }
