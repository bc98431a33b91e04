-- No shift is left in the core of a goal: each stands after the slot that it has.
use Rattle.std.proofs.Common.{◌≡◌, ℕ, zero, suc, ◌+◌, List, [], ◌∷◌, ◌++◌, Some, subst, arith}
use Rattle.std.specs.List.{slice_get}
use Rattle.std.proofs.lemmas.Option.{slice_get_within}
use Rattle.dcv_core.specs.Core.{PlainTruth, TruthConstant, TruthSlot, TruthNot, TruthJoined, TruthShift, PlainTruths, no_truths, truth_operand}
use Rattle.dcv_core.specs.Core.{PlainBasic, BasicConstant, BasicBracketed, BasicSlen, BasicCounted, BasicTrack}
use Rattle.dcv_core.specs.Core.{CoreTree, CoreAtom, CoreNot, CoreJoined, CoreChop, CoreStar, CoreExists}
use Rattle.dcv_core.specs.Steps.{PlainStep, steps_before, steps_from, steps_of}
use Rattle.dcv_core.specs.Slots.{HasNoShift, HaveNoShift, BasicHasNoShift, OpHasNoShift, CoreHasNoShift}
use Rattle.dcv_core.proofs.StepList.{some_same}
use Rattle.dcv_tracks.specs.Shifting.{Shift, placed, all_placed, placed_basic, placed_core, closed_from, shifted_core, shifts_in}

module _ (k : ℕ) (all : List Shift) where
  mutual
    placed_free : (p : PlainTruth) → HasNoShift (placed k all p)
    placed_free (TruthConstant truth) = tt
    placed_free (TruthSlot slot) = tt
    placed_free (TruthNot p) = placed_free p
    placed_free (TruthJoined connective operands) = all_placed_free operands
    placed_free (TruthShift direction p span) = tt

    all_placed_free : (operands : PlainTruths) → HaveNoShift (all_placed k all operands)
    all_placed_free no_truths = tt
    all_placed_free (truth_operand p operands) = (placed_free p, all_placed_free operands)

  basic_placed_free : (basic : PlainBasic) → BasicHasNoShift (placed_basic k all basic)
  basic_placed_free (BasicConstant truth) = tt
  basic_placed_free (BasicBracketed bracket p) = placed_free p
  basic_placed_free (BasicSlen relation n) = tt
  basic_placed_free (BasicCounted which p relation n) = placed_free p
  basic_placed_free (BasicTrack direction p slot) = placed_free p

  goal_placed_free : (goal : CoreTree) → CoreHasNoShift (placed_core k all goal)
  goal_placed_free (CoreAtom basic span) = basic_placed_free basic
  goal_placed_free (CoreNot d span) = goal_placed_free d
  goal_placed_free (CoreJoined connective c d span) = (goal_placed_free c, goal_placed_free d)
  goal_placed_free (CoreChop c d span) = (goal_placed_free c, goal_placed_free d)
  goal_placed_free (CoreStar d span) = goal_placed_free d
  goal_placed_free (CoreExists d span) = goal_placed_free d

  closed_free : (shifts : List Shift) (slot : ℕ) (core : CoreTree) → CoreHasNoShift core → CoreHasNoShift (closed_from k all slot shifts core)
  closed_free [] slot core free = free
  closed_free (shift ∷ shifts) slot core free = (closed_free shifts (suc slot) core free, placed_free shift.operand)

pub shifted_free : (k : ℕ) (goal : CoreTree) → CoreHasNoShift (shifted_core k goal)
shifted_free k goal = let all = shifts_in goal in closed_free k all all k (placed_core k all goal) (goal_placed_free k all goal)

-- ---- steps

abbrev StepsFree : List PlainStep → Type 0
StepsFree [] = Unit {0}
StepsFree (s ∷ steps) = OpHasNoShift s.op × StepsFree steps

steps_append : (xs ys : List PlainStep) → StepsFree xs → StepsFree ys → StepsFree (xs ++ ys)
steps_append [] ys a b = b
steps_append (x ∷ xs) ys a b = (a.0, steps_append xs ys a.1 b)

-- the steps of two operands, and one step without a proposition
two_free : (xs ys : List PlainStep) (last : PlainStep) → StepsFree xs → StepsFree ys → OpHasNoShift last.op → StepsFree ((xs ++ ys) ++ last ∷ [])
two_free xs ys last a b c = steps_append (xs ++ ys) (last ∷ []) (steps_append xs ys a b) (c, tt)

steps_free : (core : CoreTree) (n k : ℕ) → CoreHasNoShift core → StepsFree (steps_from n k core)
steps_free (CoreAtom basic span) n k free = (free, tt)
steps_free (CoreNot d span) n k free = steps_append (steps_from n k d) _ (steps_free d n k free) (tt, tt)
steps_free (CoreJoined connective c d span) n k free = two_free (steps_from n k c) _ _ (steps_free c n k free.0) (steps_free d (suc (n + steps_before c)) k free.1) tt
steps_free (CoreChop c d span) n k free = two_free (steps_from n k c) _ _ (steps_free c n k free.0) (steps_free d (suc (n + steps_before c)) k free.1) tt
steps_free (CoreStar d span) n k free = steps_append (steps_from n k d) _ (steps_free d n k free) (tt, tt)
steps_free (CoreExists d span) n k free = steps_append (steps_from n (k + 1) d) _ (steps_free d n (k + 1) free) (tt, tt)

free_at : (steps : List PlainStep) (n : ℕ) (step : PlainStep) → StepsFree steps → slice_get steps n ≡ Some step → OpHasNoShift step.op
free_at [] n step free is = absurd (omega (arith, slice_get_within [] n step is))
free_at (s ∷ steps) zero step free is = subst (λ (x : PlainStep). OpHasNoShift x.op) (some_same s step is) free.0
free_at (s ∷ steps) (suc n) step free is = free_at steps n step free.1 is

pub no_shift_is_left : (k : ℕ) (goal : CoreTree) (n : ℕ) (step : PlainStep)
    → slice_get (steps_of k (shifted_core k goal)) n ≡ Some step → OpHasNoShift step.op
no_shift_is_left k goal n step is = free_at (steps_of k (shifted_core k goal)) n step (steps_free (shifted_core k goal) 0 k (shifted_free k goal)) is
