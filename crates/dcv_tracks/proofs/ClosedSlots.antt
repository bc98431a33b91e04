-- How large the core of a goal with shifts is, and that its propositions name only slots in use.
use Rattle.std.proofs.Common.{◌≡◌, ℕ, suc, ◌+◌, ◌*◌, ◌<◌, ◌≤◌, max, Bool, true, false, List, [], ◌∷◌, ◌++◌, None, length, length-append, refl, sym, ap, subst, ◌∙◌, arith}
use Rattle.std.specs.Prelude.{nat_lt, if◌then◌else◌}
use Rattle.std.proofs.lemmas.Bool.Decides.{nat_tests}
use Rattle.std.proofs.lemmas.List.{append_assoc, append-nil}
use Rattle.dcv_core.specs.Core.{PlainTruth, TruthConstant, TruthSlot, TruthNot, TruthJoined, TruthShift, PlainTruths, no_truths, truth_operand}
use Rattle.dcv_core.specs.Core.{PlainBasic, BasicConstant, BasicBracketed, BasicSlen, BasicCounted, BasicTrack}
use Rattle.dcv_core.specs.Core.{truth_in, CoreTree, CoreAtom, CoreNot, CoreJoined, CoreChop, CoreStar, CoreExists}
use Rattle.dcv_core.specs.Steps.{steps_before, nesting}
use Rattle.dcv_core.specs.Slots.{IsBelow, AreBelow, BasicIsBelow, CoreIsBelow}
use Rattle.dcv_tracks.specs.Shifting.{Shift, placed_slot, placed, all_placed, placed_basic, placed_core, closed_from, shifted_core, shifts_in, bound_shift}
use Rattle.dcv_tracks.proofs.Standing.{IsCovered, AreCovered, FormIsCovered, CoreIsCovered, position}
use Rattle.dcv_tracks.proofs.PlacedSteps.{placed_before}
use Rattle.dcv_tracks.proofs.Order.{AreOrdered, shifts_ordered, goal_covered}
use Rattle.dcv_tracks.proofs.Unbound.{AreUnbound, unbound_below, shifts_unbound}

-- ---- steps and quantifiers

module _ (k : ℕ) (all : List Shift) where
  placed_nesting : (core : CoreTree) → nesting (placed_core k all core) ≡ nesting core
  placed_nesting (CoreAtom basic span) = refl
  placed_nesting (CoreNot d span) = placed_nesting d
  placed_nesting (CoreJoined connective c d span) = λ i. max (placed_nesting c i) (placed_nesting d i)
  placed_nesting (CoreChop c d span) = λ i. max (placed_nesting c i) (placed_nesting d i)
  placed_nesting (CoreStar d span) = placed_nesting d
  placed_nesting (CoreExists d span) = ap suc (placed_nesting d)

  closed_steps : (shifts : List Shift) (slot : ℕ) (core : CoreTree) → steps_before (closed_from k all slot shifts core) ≡ steps_before core + 3 * length shifts
  closed_steps [] slot core = omega arith
  closed_steps (shift ∷ shifts) slot core = omega (arith, closed_steps shifts (suc slot) core)

  closed_nesting : (shifts : List Shift) (slot : ℕ) (core : CoreTree) → nesting (closed_from k all slot shifts core) ≡ nesting core + length shifts
  closed_nesting [] slot core = omega arith
  closed_nesting (shift ∷ shifts) slot core = omega (arith, closed_nesting shifts (suc slot) core)

-- each shift adds three steps
pub shifted_steps : (k : ℕ) (goal : CoreTree) → steps_before (shifted_core k goal) ≡ steps_before goal + 3 * length (shifts_in goal)
shifted_steps k goal = omega (arith, closed_steps k (shifts_in goal) (shifts_in goal) k (placed_core k (shifts_in goal) goal), placed_before k (shifts_in goal) goal)

-- and one quantifier
pub shifted_nesting : (k : ℕ) (goal : CoreTree) → nesting (shifted_core k goal) ≡ nesting goal + length (shifts_in goal)
shifted_nesting k goal = omega (arith, closed_nesting k (shifts_in goal) (shifts_in goal) k (placed_core k (shifts_in goal) goal), placed_nesting k (shifts_in goal) goal)

-- ---- slots in use

module _ (k : ℕ) (all seen rest : List Shift) (is : all ≡ seen ++ rest) where
  -- slots below one number are placed below another, and the shifts in sight have theirs below that
  module _ (j wide : ℕ) (slots : (slot : ℕ) → slot < j → placed_slot k all slot < wide) (enough : k + length seen ≤ wide) where
    mutual
      placed_below : (p : PlainTruth) → IsCovered seen p → IsBelow j p → IsBelow wide (placed k all p)
      placed_below (TruthConstant truth) c b = tt
      placed_below (TruthSlot slot) c b = slots slot b
      placed_below (TruthNot p) c b = placed_below p c b
      placed_below (TruthJoined connective operands) c b = all_placed_below operands c b
      placed_below (TruthShift direction p span) c b =
          let has = position k all seen rest (record { direction = direction; operand = p; span = span }) is c in
          let at = has.slot in
          let inside = has.inside in
          omega (arith, at, inside, enough)

      all_placed_below : (operands : PlainTruths) → AreCovered seen operands → AreBelow j operands → AreBelow wide (all_placed k all operands)
      all_placed_below no_truths c b = tt
      all_placed_below (truth_operand p operands) c b = (placed_below p c.0 b.0, all_placed_below operands c.1 b.1)

    basic_placed_below : (basic : PlainBasic) → FormIsCovered seen (truth_in basic) → BasicIsBelow j basic → BasicIsBelow wide (placed_basic k all basic)
    basic_placed_below (BasicConstant truth) c b = tt
    basic_placed_below (BasicBracketed bracket p) c b = placed_below p c b
    basic_placed_below (BasicSlen relation n) c b = tt
    basic_placed_below (BasicCounted which p relation n) c b = placed_below p c b
    basic_placed_below (BasicTrack direction p slot) c b = (placed_below p c b.0, slots slot b.1)

-- all slots of a goal have those of the shifts before them, or stay
moved_below : (k : ℕ) (all : List Shift) (j slot : ℕ) → slot < j → placed_slot k all slot < j + length all
moved_below k all j slot below = moved (nat_lt slot k)
  where
    moved : (declared : Bool) → (if declared then slot else slot + length all) < j + length all
    moved true = omega (arith, below)
    moved false = omega (arith, below)

-- the declared ones stay
declared_below : (k : ℕ) (all : List Shift) (wide : ℕ) → k ≤ wide → (slot : ℕ) → slot < k → placed_slot k all slot < wide
declared_below k all wide enough slot below =
    let declared : nat_lt slot k ≡ true = grind (arith, nat_tests) in
    subst (λ (there : Bool). (if there then slot else slot + length all) < wide) (sym declared) (omega (arith, enough, below))

module _ (k : ℕ) (all : List Shift) where
  goal_placed_below : (core : CoreTree) → CoreIsCovered all core → (j : ℕ) → k ≤ j → CoreIsBelow j core → CoreIsBelow (j + length all) (placed_core k all core)
  goal_placed_below (CoreAtom basic span) c j le b =
      basic_placed_below k all all [] (sym (append-nil all)) j (j + length all) (moved_below k all j) (omega (arith, le)) basic c b
  goal_placed_below (CoreNot d span) c j le b = goal_placed_below d c j le b
  goal_placed_below (CoreJoined connective a d span) c j le b = (goal_placed_below a c.0 j le b.0, goal_placed_below d c.1 j le b.1)
  goal_placed_below (CoreChop a d span) c j le b = (goal_placed_below a c.0 j le b.0, goal_placed_below d c.1 j le b.1)
  goal_placed_below (CoreStar d span) c j le b = goal_placed_below d c j le b
  goal_placed_below (CoreExists d span) c j le b =
      let wider : j + 1 + length all ≡ j + length all + 1 = omega arith in
      subst (λ wide. CoreIsBelow wide (placed_core k all d)) wider (goal_placed_below d c (j + 1) (omega (arith, le)) b)

  closed_below : (seen shifts : List Shift) → all ≡ seen ++ shifts → AreOrdered seen shifts → AreUnbound k shifts → (slot : ℕ) → slot ≡ k + length seen
      → (core : CoreTree) → CoreIsBelow (k + length all) core → CoreIsBelow slot (closed_from k all slot shifts core)
  closed_below seen [] is ordered unbound slot at core b =
      let same : k + length all ≡ slot = omega (arith, at, ap length is, length-append seen []) in
      subst (λ wide. CoreIsBelow wide core) same b
  closed_below seen (shift ∷ shifts) is ordered unbound slot at core b =
      let operand = placed_below k all seen (shift ∷ shifts) is k (slot + 1) (declared_below k all (slot + 1) (omega (arith, at))) (omega (arith, at)) shift.operand ordered.0
      (unbound_below k shift.operand unbound.0) in
      let next : suc slot ≡ slot + 1 = omega arith in
      let inner = closed_below (seen ++ shift ∷ []) shifts (is ∙ sym (append_assoc seen (shift ∷ []) shifts)) ordered.1 unbound.1 (suc slot)
      (omega (arith, at, length-append seen (shift ∷ []))) core b in
      (subst (λ wide. CoreIsBelow wide (closed_from k all (suc slot) shifts core)) next inner, (operand, omega arith))

pub shifted_below : (k : ℕ) (goal : CoreTree) → bound_shift k goal ≡ None → CoreIsBelow k goal → CoreIsBelow k (shifted_core k goal)
shifted_below k goal none b =
    let all = shifts_in goal in
    closed_below k all [] all refl (shifts_ordered goal) (shifts_unbound k goal none) k (omega arith) (placed_core k all goal) (goal_placed_below k all goal (goal_covered goal) k (omega arith) b)
