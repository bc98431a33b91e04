-- The steps of a core over the slots that they go to: they are those of the moved tree, and what is asked of them step by step.
use Rattle.std.proofs.Common.{◌≡◌, ℕ, zero, suc, ◌+◌, ◌-◌, ◌<◌, ◌≤◌, Bool, true, false, List, [], ◌∷◌, ◌++◌, Some, length, map, drop, refl, sym, ap, subst, ◌∙◌, arith}
use Rattle.std.specs.Prelude.{nat_le, ◌&&◌}
use Rattle.std.specs.List.{All, slice_get}
use Rattle.std.specs.Option.{option_map}
use Rattle.std.proofs.lemmas.Bool.Decides.{nat_tests}
use Rattle.std.proofs.lemmas.List.{map-append}
use Rattle.dcv_syntax.specs.declared.names.Span.{Span}
use Rattle.dcv_core.specs.Core.{PlainTruth, truth_operand}
use Rattle.dcv_core.specs.Core.{CoreTree, CoreAtom, CoreNot, CoreJoined, CoreChop, CoreStar, CoreExists}
use Rattle.dcv_core.specs.Slots.{OpIsBelow}
use Rattle.dcv_core.specs.Steps.{PlainOp, OpNot, OpJoined, OpChop, OpStar, OpExists, PlainStep, CoreStep, without_core, steps_before, steps_from}
use Rattle.dcv_core.specs.TruthViews.{truths_of}
use Rattle.dcv_core.proofs.Chops.{and-parts}
use Rattle.dcv_tracks.proofs.PlacedSteps.{found, told, more_slots_of_op}
use Rattle.dcv_joint.specs.Faults.{most_names, has_few_slots}
use Rattle.dcv_joint.specs.Moved.{moved_slots, moved_truth, all_moved, moved_tree, moved_step}

module _ (places : List ℕ) (width : ℕ) where
  pub truths_moved : (ps : List PlainTruth) → truths_of (map (moved_truth places width) ps) ≡ all_moved places width (truths_of ps)
  truths_moved [] = refl
  truths_moved (p ∷ ps) = ap (truth_operand (moved_truth places width p)) (truths_moved ps)

  -- ---- the steps of the moved tree

  moved_before : (tree : CoreTree) → steps_before (moved_tree places width tree) ≡ steps_before tree
  moved_before (CoreAtom basic span) = refl
  moved_before (CoreNot d span) = ap suc (moved_before d)
  moved_before (CoreJoined connective c d span) = λ i. suc (suc (moved_before c i + moved_before d i))
  moved_before (CoreChop c d span) = λ i. suc (suc (moved_before c i + moved_before d i))
  moved_before (CoreStar d span) = ap suc (moved_before d)
  moved_before (CoreExists d span) = ap suc (moved_before d)

  abbrev AreMoved : List PlainStep → List PlainStep → Type 0
  AreMoved steps from = map without_core steps ≡ map (moved_step places width) (map without_core from)

  moved_both : (xs ys from others : List PlainStep) → AreMoved xs from → AreMoved ys others → AreMoved (xs ++ ys) (from ++ others)
  moved_both xs ys from others one two =
      map-append without_core xs ys
      ∙ (λ i. one i ++ two i)
      ∙ sym (map-append (moved_step places width) (map without_core from) (map without_core others))
      ∙ ap (map (moved_step places width)) (sym (map-append without_core from others))

  abbrev at : Span → ℕ → PlainOp → CoreStep
  at span s op = record { op = op; span = span; slots = moved_slots places width s }

  -- two parts, one after another, and the step after them
  two_moved : (one xs two ys : List PlainStep) (own from : PlainStep) → AreMoved one xs → AreMoved two ys → without_core own ≡ moved_step places width (without_core from)
      → AreMoved ((one ++ two) ++ own ∷ []) ((xs ++ ys) ++ from ∷ [])
  two_moved one xs two ys own from first second same =
      moved_both (one ++ two) (own ∷ []) (xs ++ ys) (from ∷ []) (moved_both one two xs ys first second) (ap (λ step. step ∷ []) same)

  moved_steps : (tree : CoreTree) (n s : ℕ) → length places ≤ s → AreMoved (steps_from n (moved_slots places width s) (moved_tree places width tree)) (steps_from n s tree)
  moved_steps (CoreAtom basic span) n s le = refl
  moved_steps (CoreNot d span) n s le =
      moved_both (steps_from n (moved_slots places width s) (moved_tree places width d)) (_ ∷ []) (steps_from n s d) (_ ∷ []) (moved_steps d n s le)
      (ap (λ b. at span s (OpNot (n + b)) ∷ []) (moved_before d))
  moved_steps (CoreJoined connective c d span) n s le =
      two_moved (steps_from n (moved_slots places width s) (moved_tree places width c)) (steps_from n s c)
      (steps_from (suc (n + steps_before (moved_tree places width c))) (moved_slots places width s) (moved_tree places width d)) (steps_from (suc (n + steps_before c)) s d) _ _
      (moved_steps c n s le)
      (ap (λ b. map without_core (steps_from (suc (n + b)) (moved_slots places width s) (moved_tree places width d))) (moved_before c) ∙ moved_steps d (suc (n + steps_before c)) s le)
      (λ i. at span s (OpJoined connective (n + moved_before c i) (suc (n + moved_before c i) + moved_before d i)))
  moved_steps (CoreChop c d span) n s le =
      two_moved (steps_from n (moved_slots places width s) (moved_tree places width c)) (steps_from n s c)
      (steps_from (suc (n + steps_before (moved_tree places width c))) (moved_slots places width s) (moved_tree places width d)) (steps_from (suc (n + steps_before c)) s d) _ _
      (moved_steps c n s le)
      (ap (λ b. map without_core (steps_from (suc (n + b)) (moved_slots places width s) (moved_tree places width d))) (moved_before c) ∙ moved_steps d (suc (n + steps_before c)) s le)
      (λ i. at span s (OpChop (n + moved_before c i) (suc (n + moved_before c i) + moved_before d i)))
  moved_steps (CoreStar d span) n s le =
      moved_both (steps_from n (moved_slots places width s) (moved_tree places width d)) (_ ∷ []) (steps_from n s d) (_ ∷ []) (moved_steps d n s le)
      (ap (λ b. at span s (OpStar (n + b)) ∷ []) (moved_before d))
  moved_steps (CoreExists d span) n s le =
      let deeper : moved_slots places width s + 1 ≡ moved_slots places width (s + 1) = omega (arith, le) in
      moved_both (steps_from n (moved_slots places width s + 1) (moved_tree places width d)) (_ ∷ []) (steps_from n (s + 1) d) (_ ∷ [])
      (ap (λ m. map without_core (steps_from n m (moved_tree places width d))) deeper ∙ moved_steps d n (s + 1) (omega (arith, le)))
      (ap (λ b. at span s (OpExists (n + b)) ∷ []) (moved_before d))

  pub core_moved : (declared over : ℕ) (tree : CoreTree) (steps moved : List CoreStep) → declared ≡ length places → over ≡ width
      → steps ≡ map without_core (steps_from 0 declared tree) → moved ≡ map (moved_step places width) steps
      → moved ≡ map without_core (steps_from 0 over (moved_tree places width tree))
  core_moved declared over tree steps moved own is of made =
      let all : moved_slots places width declared ≡ over = omega (arith, own, is) in
      made
      ∙ ap (map (moved_step places width)) of
      ∙ sym (moved_steps tree 0 declared (omega (arith, own)))
      ∙ ap (λ n. map without_core (steps_from 0 n (moved_tree places width tree))) all

  -- ---- how many slots the steps have

  abbrev is_few : ℕ → Bool
  is_few slots = nat_le (moved_slots places width slots) most_names

  few_next : (steps : List CoreStep) (i slots : ℕ) → i < length steps → option_map (λ (s : CoreStep). s.slots) (slice_get steps i) ≡ Some slots
      → has_few_slots places width (drop i steps) ≡ (is_few slots && has_few_slots places width (drop (i + 1) steps))
  few_next steps i slots lt of =
      let here = found steps i lt in
      let same : here.step.slots ≡ slots = sym (told (λ (s : CoreStep). s.slots) (slice_get steps i) here.step slots here.is of) in
      let next : suc i ≡ i + 1 = omega arith in
      ap (has_few_slots places width) here.left ∙ (λ j. is_few (same j) && has_few_slots places width (drop (next j) steps))

  module _ (steps : List CoreStep) (i slots : ℕ) (lt : i < length steps) (of : option_map (λ (s : CoreStep). s.slots) (slice_get steps i) ≡ Some slots)
      (so_far : has_few_slots places width (drop i steps) ≡ has_few_slots places width steps) where
    pub few_on : moved_slots places width slots ≤ 32 → has_few_slots places width (drop (i + 1) steps) ≡ has_few_slots places width steps
    few_on le =
        let few : is_few slots ≡ true = grind (arith, nat_tests) in
        sym (ap (λ b. b && has_few_slots places width (drop (i + 1) steps)) few) ∙ sym (few_next steps i slots lt of) ∙ so_far

    pub few_ends : 32 < moved_slots places width slots → false ≡ has_few_slots places width steps
    few_ends more =
        let many : is_few slots ≡ false = grind (arith, nat_tests) in
        sym (ap (λ b. b && has_few_slots places width (drop (i + 1) steps)) many) ∙ sym (few_next steps i slots lt of) ∙ so_far

  pub few_at : (steps : List CoreStep) (i slots : ℕ) → i < length steps → has_few_slots places width steps ≡ true → option_map (λ (s : CoreStep). s.slots) (slice_get steps i) ≡ Some slots
      → moved_slots places width slots ≤ 32
  few_at [] i slots lt few of = absurd (omega (arith, lt))
  few_at (step ∷ steps) zero slots lt few of =
      let same : slots ≡ step.slots = told (λ (s : CoreStep). s.slots) (Some step) step slots refl of in
      let here : is_few step.slots ≡ true = (and-parts (is_few step.slots) (has_few_slots places width steps) few).0 in
      let le : moved_slots places width step.slots ≤ 32 = grind (arith, nat_tests) in
      omega (arith, same, le)
  few_at (step ∷ steps) (suc i) slots lt few of =
      few_at steps i slots (omega (arith, lt)) (and-parts (is_few step.slots) (has_few_slots places width steps) few).1 of

  -- so its slots have numbers
  pub below_at : (steps : List CoreStep) (i : ℕ) (op : PlainOp) → i < length steps → has_few_slots places width steps ≡ true
      → All (λ (step : CoreStep). OpIsBelow step.slots step.op) steps → option_map (λ (step : CoreStep). step.op) (slice_get steps i) ≡ Some op
      → OpIsBelow (length places + 256 - width) op
  below_at steps i op lt few in_use of =
      let here = found steps i lt in
      let same : op ≡ here.step.op = told (λ (step : CoreStep). step.op) (slice_get steps i) here.step op here.is of in
      let within = few_at steps i here.step.slots lt few (ap (option_map (λ (s : CoreStep). s.slots)) here.is) in
      let below : OpIsBelow here.step.slots here.step.op = subst (λ (step : CoreStep). OpIsBelow step.slots step.op) (here.at here.step) (in_use i here.step lt) in
      subst (OpIsBelow (length places + 256 - width)) (sym same) (more_slots_of_op here.step.op here.step.slots (length places + 256 - width) (omega (arith, within)) below)
