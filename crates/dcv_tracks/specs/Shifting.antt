-- Prior and next propositions of a goal: which slots they have, and the core that is left when they stand for these.
--     Shift                       a direction, an operand, and a place
--     same_truth, same_shift      two propositions, or shifts, are the same but for their places
--     shifts_in core              the shifts of a goal, each once, an inner one before the outer one, from left to right
--     placed_core k all core      the goal with a slot for each shift, where k variables are declared
--     closed k all core           a track for each slot, which is what the shift is
--     bound_shift k core          where the first shift stands that looks at a quantified variable
use Rattle.std.specs.Prelude.{ℕ, suc, ◌+◌, Bool, true, false, ◌&&◌, ◌||◌, nat_eq, nat_le, nat_lt, if◌then◌else◌, List, [], ◌∷◌, ◌++◌, length, Option, None, Some}
use Rattle.std.specs.Bool.{beq}
use Rattle.std.specs.List.{list_any, position_or_len}
use Rattle.std.specs.Option.{option_or}
use Rattle.dcv_syntax.specs.declared.names.Span.{Span}
use Rattle.dcv_syntax.specs.declared.propositions.Connective.{Connective}
use Rattle.dcv_syntax.specs.declared.propositions.Connective.TheVariants.{And, Or, Iff}
use Rattle.dcv_syntax.specs.declared.propositions.Direction.{Direction}
use Rattle.dcv_syntax.specs.declared.propositions.Direction.TheVariants.{Prior, Next}
use Rattle.dcv_core.specs.Core.{PlainTruth, TruthConstant, TruthSlot, TruthNot, TruthJoined, TruthShift, PlainTruths, no_truths, truth_operand}
use Rattle.dcv_core.specs.Core.{PlainBasic, BasicConstant, BasicBracketed, BasicSlen, BasicCounted, BasicTrack, truth_in}
use Rattle.dcv_core.specs.Core.{CoreTree, CoreAtom, CoreNot, CoreJoined, CoreChop, CoreStar, CoreExists}

pub record Shift : Type 0 where
  pub direction : Direction
  pub operand : PlainTruth
  pub span : Span

-- ---- the same but for places

abbrev pub same_direction : Direction → Direction → Bool
same_direction Prior Prior = true
same_direction Next Next = true
same_direction _ _ = false

abbrev pub same_connective : Connective → Connective → Bool
same_connective And And = true
same_connective Or Or = true
same_connective Iff Iff = true
same_connective _ _ = false

abbrev mutual
  pub same_truth : PlainTruth → PlainTruth → Bool
  same_truth (TruthConstant truth) (TruthConstant other) = beq truth other
  same_truth (TruthSlot slot) (TruthSlot other) = nat_eq slot other
  same_truth (TruthNot p) (TruthNot q) = same_truth p q
  same_truth (TruthJoined connective operands) (TruthJoined other others) = same_connective connective other && same_truths operands others
  same_truth (TruthShift direction p span) (TruthShift other q other_span) = same_direction direction other && same_truth p q
  same_truth _ _ = false

  pub same_truths : PlainTruths → PlainTruths → Bool
  same_truths no_truths no_truths = true
  same_truths (truth_operand p operands) (truth_operand q others) = same_truth p q && same_truths operands others
  same_truths _ _ = false

abbrev pub same_shift : Shift → Shift → Bool
same_shift shift other = same_direction shift.direction other.direction && same_truth shift.operand other.operand

-- ---- the shifts of a goal

-- one more, unless the same is there
abbrev pub with_shift : List Shift → Shift → List Shift
with_shift seen shift = if list_any (same_shift shift) seen then seen else seen ++ shift ∷ []

abbrev mutual
  pub collected : List Shift → PlainTruth → List Shift
  collected seen (TruthConstant truth) = seen
  collected seen (TruthSlot slot) = seen
  collected seen (TruthNot p) = collected seen p
  collected seen (TruthJoined connective operands) = all_collected seen operands
  collected seen (TruthShift direction p span) = with_shift (collected seen p) (record { direction = direction; operand = p; span = span })

  pub all_collected : List Shift → PlainTruths → List Shift
  all_collected seen no_truths = seen
  all_collected seen (truth_operand p operands) = all_collected (collected seen p) operands

-- the shifts of a form or a step, which may have no proposition
abbrev pub collected_by : List Shift → Option PlainTruth → List Shift
collected_by seen None = seen
collected_by seen (Some p) = collected seen p

abbrev pub collected_of : List Shift → CoreTree → List Shift
collected_of seen (CoreAtom basic span) = collected_by seen (truth_in basic)
collected_of seen (CoreNot d span) = collected_of seen d
collected_of seen (CoreJoined connective c d span) = collected_of (collected_of seen c) d
collected_of seen (CoreChop c d span) = collected_of (collected_of seen c) d
collected_of seen (CoreStar d span) = collected_of seen d
collected_of seen (CoreExists d span) = collected_of seen d

abbrev pub shifts_in : CoreTree → List Shift
shifts_in core = collected_of [] core

-- how many a goal may have
abbrev pub most_shifts : ℕ
most_shifts = 32

-- ---- slots in their places

-- a declared slot stays, and one of a quantifier goes after those of the shifts
abbrev pub placed_slot : ℕ → List Shift → ℕ → ℕ
placed_slot k all slot = if nat_lt slot k then slot else slot + length all

-- the slot of a shift
abbrev pub slot_of : ℕ → List Shift → Shift → ℕ
slot_of k all shift = k + position_or_len (same_shift shift) all

abbrev mutual
  pub placed : ℕ → List Shift → PlainTruth → PlainTruth
  placed k all (TruthConstant truth) = TruthConstant truth
  placed k all (TruthSlot slot) = TruthSlot (placed_slot k all slot)
  placed k all (TruthNot p) = TruthNot (placed k all p)
  placed k all (TruthJoined connective operands) = TruthJoined connective (all_placed k all operands)
  placed k all (TruthShift direction p span) = TruthSlot (slot_of k all (record { direction = direction; operand = p; span = span }))

  pub all_placed : ℕ → List Shift → PlainTruths → PlainTruths
  all_placed k all no_truths = no_truths
  all_placed k all (truth_operand p operands) = truth_operand (placed k all p) (all_placed k all operands)

abbrev pub placed_basic : ℕ → List Shift → PlainBasic → PlainBasic
placed_basic k all (BasicConstant truth) = BasicConstant truth
placed_basic k all (BasicBracketed bracket p) = BasicBracketed bracket (placed k all p)
placed_basic k all (BasicSlen relation n) = BasicSlen relation n
placed_basic k all (BasicCounted which p relation n) = BasicCounted which (placed k all p) relation n
placed_basic k all (BasicTrack direction p slot) = BasicTrack direction (placed k all p) (placed_slot k all slot)

abbrev pub placed_core : ℕ → List Shift → CoreTree → CoreTree
placed_core k all (CoreAtom basic span) = CoreAtom (placed_basic k all basic) span
placed_core k all (CoreNot d span) = CoreNot (placed_core k all d) span
placed_core k all (CoreJoined connective c d span) = CoreJoined connective (placed_core k all c) (placed_core k all d) span
placed_core k all (CoreChop c d span) = CoreChop (placed_core k all c) (placed_core k all d) span
placed_core k all (CoreStar d span) = CoreStar (placed_core k all d) span
placed_core k all (CoreExists d span) = CoreExists (placed_core k all d) span

-- ---- a track for each slot

-- the row of a shift: the slot is what the operand is one instant earlier, or later
abbrev pub shift_basic : ℕ → List Shift → Shift → ℕ → PlainBasic
shift_basic k all shift slot = BasicTrack shift.direction (placed k all shift.operand) slot

-- these shifts have the slots from the next on; the last of them is closed first
abbrev pub closed_from : ℕ → List Shift → ℕ → List Shift → CoreTree → CoreTree
closed_from k all slot [] core = core
closed_from k all slot (shift ∷ shifts) core =
    CoreExists (CoreJoined And (closed_from k all (suc slot) shifts core) (CoreAtom (shift_basic k all shift slot) shift.span) shift.span) shift.span

abbrev pub closed : ℕ → List Shift → CoreTree → CoreTree
closed k all core = closed_from k all k all core

-- the core that is left of a goal
abbrev pub shifted_core : ℕ → CoreTree → CoreTree
shifted_core k core = closed k (shifts_in core) (placed_core k (shifts_in core) core)

-- ---- shifts that look at quantified variables

abbrev mutual
  -- a slot after the declared ones stands in it
  pub names_bound : ℕ → PlainTruth → Bool
  names_bound k (TruthConstant truth) = false
  names_bound k (TruthSlot slot) = nat_le k slot
  names_bound k (TruthNot p) = names_bound k p
  names_bound k (TruthJoined connective operands) = some_names_bound k operands
  names_bound k (TruthShift direction p span) = names_bound k p

  pub some_names_bound : ℕ → PlainTruths → Bool
  some_names_bound k no_truths = false
  some_names_bound k (truth_operand p operands) = names_bound k p || some_names_bound k operands

abbrev mutual
  -- an outer shift is told before those in its operand
  pub bound_in : ℕ → PlainTruth → Option ℕ
  bound_in k (TruthConstant truth) = None
  bound_in k (TruthSlot slot) = None
  bound_in k (TruthNot p) = bound_in k p
  bound_in k (TruthJoined connective operands) = first_bound k operands
  bound_in k (TruthShift direction p span) = if names_bound k p then Some span.start else None

  pub first_bound : ℕ → PlainTruths → Option ℕ
  first_bound k no_truths = None
  first_bound k (truth_operand p operands) = option_or (bound_in k p) (first_bound k operands)

abbrev pub bound_by : ℕ → Option PlainTruth → Option ℕ
bound_by k None = None
bound_by k (Some p) = bound_in k p

-- at the byte where the shift begins
abbrev pub bound_shift : ℕ → CoreTree → Option ℕ
bound_shift k (CoreAtom basic span) = bound_by k (truth_in basic)
bound_shift k (CoreNot d span) = bound_shift k d
bound_shift k (CoreJoined connective c d span) = option_or (bound_shift k c) (bound_shift k d)
bound_shift k (CoreChop c d span) = option_or (bound_shift k c) (bound_shift k d)
bound_shift k (CoreStar d span) = bound_shift k d
bound_shift k (CoreExists d span) = bound_shift k d
