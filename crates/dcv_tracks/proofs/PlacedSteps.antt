-- The steps of a goal with slots in place of its shifts.
use Rattle.std.proofs.Common.{◌≡◌, ℕ, zero, suc, ◌+◌, ◌-◌, ◌<◌, ◌≤◌, List, [], ◌∷◌, ◌++◌, Option, Some, length, map, drop, refl, sym, ap, subst, ◌∙◌, arith}
use Rattle.std.specs.List.{All, slice_get, slice_index_or}
use Rattle.std.specs.Option.{option_map, unwrap_or}
use Rattle.std.proofs.lemmas.List.{map-append, append_assoc}
use Rattle.dcv_syntax.specs.declared.names.Span.{Span}
use Rattle.dcv_core.specs.Core.{PlainTruth, TruthConstant, TruthSlot, TruthNot, TruthJoined, TruthShift, PlainTruths, no_truths, truth_operand}
use Rattle.dcv_core.specs.Core.{PlainBasic, BasicConstant, BasicBracketed, BasicSlen, BasicCounted, BasicTrack}
use Rattle.dcv_core.specs.Core.{CoreTree, CoreAtom, CoreNot, CoreJoined, CoreChop, CoreStar, CoreExists}
use Rattle.dcv_core.specs.Slots.{IsBelow, AreBelow, BasicIsBelow, OpIsBelow}
use Rattle.dcv_core.specs.Steps.{PlainOp, OpAtom, OpNot, OpJoined, OpChop, OpStar, OpExists, PlainStep, CoreStep, without_core, steps_before, steps_from, PlainCore, Pushed}
use Rattle.dcv_core.specs.TruthViews.{truths_of}
use Rattle.dcv_tracks.specs.Shifting.{Shift, placed, all_placed, placed_core}
use Rattle.dcv_tracks.specs.ShiftSteps.{with_steps, placed_op, placed_step}

-- ---- how many parts a proposition has

abbrev mutual
  pub parts : PlainTruth → ℕ
  parts (TruthConstant truth) = 0
  parts (TruthSlot slot) = 0
  parts (TruthNot p) = suc (parts p)
  parts (TruthJoined connective operands) = suc (all_parts operands)
  parts (TruthShift direction p span) = suc (parts p)

  pub all_parts : PlainTruths → ℕ
  all_parts no_truths = 0
  all_parts (truth_operand p operands) = suc (parts p + all_parts operands)

-- ---- more slots

mutual
  pub more_slots : (p : PlainTruth) (k j : ℕ) → k ≤ j → IsBelow k p → IsBelow j p
  more_slots (TruthConstant truth) k j le b = tt
  more_slots (TruthSlot slot) k j le b = omega (arith, le, b)
  more_slots (TruthNot p) k j le b = more_slots p k j le b
  more_slots (TruthJoined connective operands) k j le b = more_slots_in operands k j le b
  more_slots (TruthShift direction p span) k j le b = more_slots p k j le b

  more_slots_in : (operands : PlainTruths) (k j : ℕ) → k ≤ j → AreBelow k operands → AreBelow j operands
  more_slots_in no_truths k j le b = tt
  more_slots_in (truth_operand p operands) k j le b = (more_slots p k j le b.0, more_slots_in operands k j le b.1)

more_slots_of_basic : (basic : PlainBasic) (k j : ℕ) → k ≤ j → BasicIsBelow k basic → BasicIsBelow j basic
more_slots_of_basic (BasicConstant truth) k j le b = tt
more_slots_of_basic (BasicBracketed bracket p) k j le b = more_slots p k j le b
more_slots_of_basic (BasicSlen relation n) k j le b = tt
more_slots_of_basic (BasicCounted which p relation n) k j le b = more_slots p k j le b
more_slots_of_basic (BasicTrack direction p slot) k j le b = (more_slots p k j le b.0, omega (arith, le, b.1))

pub more_slots_of_op : (op : PlainOp) (k j : ℕ) → k ≤ j → OpIsBelow k op → OpIsBelow j op
more_slots_of_op (OpAtom basic) k j le b = more_slots_of_basic basic k j le b
more_slots_of_op op k j le b = tt

-- ---- slots in place of shifts

module _ (k : ℕ) (all : List Shift) where
  pub truths_placed : (ps : List PlainTruth) → truths_of (map (placed k all) ps) ≡ all_placed k all (truths_of ps)
  truths_placed [] = refl
  truths_placed (p ∷ ps) = ap (truth_operand (placed k all p)) (truths_placed ps)

  pub placed_before : (tree : CoreTree) → steps_before (placed_core k all tree) ≡ steps_before tree
  placed_before (CoreAtom basic span) = refl
  placed_before (CoreNot d span) = ap suc (placed_before d)
  placed_before (CoreJoined connective c d span) = λ i. suc (suc (placed_before c i + placed_before d i))
  placed_before (CoreChop c d span) = λ i. suc (suc (placed_before c i + placed_before d i))
  placed_before (CoreStar d span) = ap suc (placed_before d)
  placed_before (CoreExists d span) = ap suc (placed_before d)

  -- the steps are those of the goal, each with slots in place of its shifts
  abbrev ArePlaced : List PlainStep → List PlainStep → Type 0
  ArePlaced steps goal = map without_core steps ≡ map (placed_step k all) (map without_core goal)

  placed_both : (xs ys goals others : List PlainStep) → ArePlaced xs goals → ArePlaced ys others → ArePlaced (xs ++ ys) (goals ++ others)
  placed_both xs ys goals others one two =
      map-append without_core xs ys
      ∙ (λ i. one i ++ two i)
      ∙ sym (map-append (placed_step k all) (map without_core goals) (map without_core others))
      ∙ ap (map (placed_step k all)) (sym (map-append without_core goals others))

  module _ (span : Span) (s : ℕ) where
    abbrev over : PlainOp → CoreStep
    over op = record { op = op; span = span; slots = s + length all }

  -- two parts, one after another, and the step after them
  two_placed : (one xs two ys : List PlainStep) (own goal : PlainStep) → ArePlaced one xs → ArePlaced two ys → without_core own ≡ placed_step k all (without_core goal)
      → ArePlaced ((one ++ two) ++ own ∷ []) ((xs ++ ys) ++ goal ∷ [])
  two_placed one xs two ys own goal first second same =
      placed_both (one ++ two) (own ∷ []) (xs ++ ys) (goal ∷ []) (placed_both one two xs ys first second) (ap (λ step. step ∷ []) same)

  pub placed_steps : (tree : CoreTree) (n s : ℕ) → ArePlaced (steps_from n (s + length all) (placed_core k all tree)) (steps_from n s tree)
  placed_steps (CoreAtom basic span) n s = refl
  placed_steps (CoreNot d span) n s =
      placed_both (steps_from n (s + length all) (placed_core k all d)) (_ ∷ []) (steps_from n s d) (_ ∷ []) (placed_steps d n s)
      (ap (λ b. over span s (OpNot (n + b)) ∷ []) (placed_before d))
  placed_steps (CoreJoined connective c d span) n s =
      two_placed (steps_from n (s + length all) (placed_core k all c)) (steps_from n s c)
      (steps_from (suc (n + steps_before (placed_core k all c))) (s + length all) (placed_core k all d)) (steps_from (suc (n + steps_before c)) s d) _ _
      (placed_steps c n s)
      (ap (λ b. map without_core (steps_from (suc (n + b)) (s + length all) (placed_core k all d))) (placed_before c) ∙ placed_steps d (suc (n + steps_before c)) s)
      (λ i. over span s (OpJoined connective (n + placed_before c i) (suc (n + placed_before c i) + placed_before d i)))
  placed_steps (CoreChop c d span) n s =
      two_placed (steps_from n (s + length all) (placed_core k all c)) (steps_from n s c)
      (steps_from (suc (n + steps_before (placed_core k all c))) (s + length all) (placed_core k all d)) (steps_from (suc (n + steps_before c)) s d) _ _
      (placed_steps c n s)
      (ap (λ b. map without_core (steps_from (suc (n + b)) (s + length all) (placed_core k all d))) (placed_before c) ∙ placed_steps d (suc (n + steps_before c)) s)
      (λ i. over span s (OpChop (n + placed_before c i) (suc (n + placed_before c i) + placed_before d i)))
  placed_steps (CoreStar d span) n s =
      placed_both (steps_from n (s + length all) (placed_core k all d)) (_ ∷ []) (steps_from n s d) (_ ∷ []) (placed_steps d n s)
      (ap (λ b. over span s (OpStar (n + b)) ∷ []) (placed_before d))
  placed_steps (CoreExists d span) n s =
      let deeper : (s + length all) + 1 ≡ (s + 1) + length all = omega arith in
      placed_both (steps_from n ((s + length all) + 1) (placed_core k all d)) (_ ∷ []) (steps_from n (s + 1) d) (_ ∷ [])
      (ap (λ m. map without_core (steps_from n m (placed_core k all d))) deeper ∙ placed_steps d n (s + 1))
      (ap (λ b. over span s (OpExists (n + b)) ∷ []) (placed_before d))

-- ---- the step at a place

some_is : {Y : Type 0} (a b : Y) → Some a ≡ Some b → a ≡ b
some_is a b e = ap (λ o. unwrap_or o a) e

-- what is told of it
pub told : {Y : Type 0} (f : CoreStep → Y) (found : Option CoreStep) (step : CoreStep) (y : Y) → found ≡ Some step → option_map f found ≡ Some y → y ≡ f step
told f found step y is of = some_is y (f step) (sym of ∙ ap (option_map f) is)

pub record Found (steps : List CoreStep) (i : ℕ) : Type 0 where
  pub step : CoreStep
  pub is : slice_get steps i ≡ Some step
  pub at : (d : CoreStep) → slice_index_or steps i d ≡ step
  pub left : drop i steps ≡ step ∷ drop (suc i) steps

pub found : (steps : List CoreStep) (i : ℕ) → i < length steps → Found steps i
found [] i lt = absurd (omega (arith, lt))
found (step ∷ steps) zero lt = record { step = step; is = refl; at = λ d. refl; left = refl }
found (step ∷ steps) (suc i) lt =
    let further = found steps i (omega (arith, lt)) in
    record { step = further.step; is = further.is; at = further.at; left = further.left }

module _ (steps : List CoreStep) (n i : ℕ) (lt : i < length steps) (room : All (λ (step : CoreStep). step.slots + n < 256) steps) where
  -- there is room for the slots of the shifts too
  pub room_at : (slots : ℕ) → option_map (λ (step : CoreStep). step.slots) (slice_get steps i) ≡ Some slots → slots + n < 256
  room_at slots of =
      let here = found steps i lt in
      let same : slots ≡ here.step.slots = told (λ (step : CoreStep). step.slots) (slice_get steps i) here.step slots here.is of in
      let within : here.step.slots + n < 256 = subst (λ (step : CoreStep). step.slots + n < 256) (here.at here.step) (room i here.step lt) in
      omega (arith, same, within)

  pub below_at : All (λ (step : CoreStep). OpIsBelow step.slots step.op) steps → (op : PlainOp) → option_map (λ (step : CoreStep). step.op) (slice_get steps i) ≡ Some op
      → OpIsBelow (256 - n) op
  below_at in_use op of =
      let here = found steps i lt in
      let same : op ≡ here.step.op = told (λ (step : CoreStep). step.op) (slice_get steps i) here.step op here.is of in
      let within : here.step.slots + n < 256 = subst (λ (step : CoreStep). step.slots + n < 256) (here.at here.step) (room i here.step lt) in
      let below : OpIsBelow here.step.slots here.step.op = subst (λ (step : CoreStep). OpIsBelow step.slots step.op) (here.at here.step) (in_use i here.step lt) in
      subst (OpIsBelow (256 - n)) (sym same) (more_slots_of_op here.step.op here.step.slots (256 - n) (omega (arith, within)) below)

-- ---- a step more

pub step_placed : (k : ℕ) (all : List Shift) (found : Option CoreStep) (op operator : PlainOp) (span : Span) (slots over number : ℕ) (old new : PlainCore)
    → option_map (λ (s : CoreStep). s.op) found ≡ Some op → option_map (λ (s : CoreStep). s.span) found ≡ Some span → option_map (λ (s : CoreStep). s.slots) found ≡ Some slots
    → operator ≡ placed_op k all op → over ≡ slots + length all → Pushed old operator span over new number
    → (step : CoreStep) → found ≡ Some step → new ≡ with_steps old (old.steps ++ placed_step k all step ∷ [])
step_placed k all found op operator span slots over number old new op_of span_of slots_of operator_is over_is pushed step is =
    let op_is : operator ≡ placed_op k all step.op = operator_is ∙ ap (placed_op k all) (told (λ (s : CoreStep). s.op) found step op is op_of) in
    let span_is : span ≡ step.span = told (λ (s : CoreStep). s.span) found step span is span_of in
    let slots_is : over ≡ step.slots + length all = over_is ∙ ap (λ m. m + length all) (told (λ (s : CoreStep). s.slots) found step slots is slots_of) in
    pushed.added ∙ (λ i. with_steps old (old.steps ++ record { op = op_is i; span = span_is i; slots = slots_is i } ∷ []))

-- those so far and those to come
pub next_placed : (place : CoreStep → CoreStep) (goal before after whole : List CoreStep) (i : ℕ) (step : CoreStep) → drop i goal ≡ step ∷ drop (suc i) goal
    → after ≡ before ++ place step ∷ [] → before ++ map place (drop i goal) ≡ whole → after ++ map place (drop (i + 1) goal) ≡ whole
next_placed place goal before after whole i step left added so_far =
    let next : i + 1 ≡ suc i = omega arith in
    (λ j. added j ++ map place (drop (next j) goal))
    ∙ append_assoc before (place step ∷ []) (map place (drop (suc i) goal))
    ∙ ap (λ steps. before ++ map place steps) (sym left)
    ∙ so_far
