-- A new replay of a node follows it.
use Rattle.std.proofs.Common.{◌≡◌, ℕ, ◌+◌, ◌<◌, ◌≤◌, Bool, true, false, cond, List, [], ◌∷◌, length, map, fold, reverse, None, sym, ap, subst, ◌∙◌, arith}
use Rattle.std.specs.List.{All, AllByRecursion, flat_map}
use Rattle.std.proofs.lemmas.List.{reverse-append, map-append}
use Rattle.std.proofs.lemmas.List.Elements.{All-from_recursion, recursion_from_All, All-append}
use Rattle.dcv_observer.specs.declared.conditions.Condition.{Condition}
use Rattle.dcv_observer.specs.declared.conditions.Condition.TheVariants.{Holds, Equals}
use Rattle.dcv_observer.specs.declared.conditions.Test.{Test}
use Rattle.dcv_lustre.specs.declared.node.Item.{Item}
use Rattle.dcv_lustre.specs.declared.node.Item.TheVariants.{Constant, Named}
use Rattle.dcv_lustre.specs.declared.node.Arm.{Arm}
use Rattle.dcv_lustre.specs.declared.node.Right.{Right}
use Rattle.dcv_lustre.specs.declared.node.Right.TheVariants.{Delayed, Chosen, Tested}
use Rattle.dcv_lustre.specs.declared.node.Equation.{Equation}
use Rattle.dcv_lustre.specs.Tree.{Node}
use Rattle.dcv_lustre.specs.Meaning.{names_of, width_of, has_only_tick}
use Rattle.dcv_lustre.specs.Rules.{IsWellNamed}
use Rattle.dcv_lustre.specs.Form.{IsSpellable}
use Rattle.dcv_lustre.specs.Laws.{TraceExists}
use Rattle.dcv_lustre.specs.Seen.{seen_equation}
use Rattle.dcv_replay.specs.declared.replay.Select.{Select}
use Rattle.dcv_replay.specs.Program.{first_name, IsWithin, IsReplay, Selects}
use Rattle.dcv_replay.specs.Observer.{Lustre, Follows}
use Rattle.dcv_replay.specs.Selecting.{slot_of, copy, test_select, IsFresh}
use Rattle.dcv_replay.specs.OfNode.{item_slot, choosing, arm_select, arms_selects, tests_selects, cell_of, right_selects, equation_selects, latch_of, latch_selects, node_selects}
use Rattle.dcv_replay.specs.OfNode.{after_cell, first_cell, IsPlacedItem, IsPlacedCondition, IsPlacedArm, IsPlacedRight, IsPlacedEquation, IsStoreOf}
use Rattle.dcv_replay.proofs.NodeNames.{placed_equations, few_inputs}
use Rattle.dcv_replay.proofs.NodeCells.{cells_set}
use Rattle.dcv_replay.proofs.NodeRuns.{Runs, apart, order, count_of, follows_node}

-- ---- selections are within the store

module _ (count slots : ℕ) (room : first_name + (count + count) < slots) where
  copy_within : (target from : ℕ) → target < slots → from < slots → IsWithin slots (copy target from)
  copy_within target from target_in from_in = record { target = target_in; tested = omega (arith, room); when_equal = from_in; otherwise = from_in }

  item_within : (item : Item) → IsPlacedItem count item → item_slot item < slots
  item_within (Constant value) small = omega (arith, small, room)
  item_within (Named place) below = omega (arith, below, room)

  choosing_within : (target : ℕ) (condition : Condition) (held otherwise : ℕ) → target < slots → IsPlacedCondition count condition → held < slots → otherwise < slots
      → IsWithin slots (choosing target condition held otherwise)
  choosing_within target (Holds place) held otherwise target_in below held_in otherwise_in =
      record { target = target_in; tested = omega (arith, below, room); when_equal = held_in; otherwise = otherwise_in }
  choosing_within target (Equals place number) held otherwise target_in below held_in otherwise_in =
      record { target = target_in; tested = omega (arith, below, room); when_equal = held_in; otherwise = otherwise_in }

  one_within : (select : Select) → IsWithin slots select → All (IsWithin slots) (select ∷ [])
  one_within select is = All-from_recursion (IsWithin slots) (select ∷ []) (is, tt)

  arms_within : (target : ℕ) → target < slots → (arms : List Arm) → AllByRecursion (IsPlacedArm count) arms → All (IsWithin slots) (arms_selects target arms)
  arms_within target target_in [] placed = All-from_recursion (IsWithin slots) [] tt
  arms_within target target_in (arm ∷ arms) placed =
      subst (All (IsWithin slots)) (sym (ap (map (arm_select target)) (reverse-append (arm ∷ []) arms) ∙ map-append (arm_select target) (reverse arms) (arm ∷ [])))
      (All-append (IsWithin slots) (arms_selects target arms) (arm_select target arm ∷ []) (arms_within target target_in arms placed.1)
      (one_within (arm_select target arm) (choosing_within target arm.condition (item_slot arm.item) target target_in placed.0.condition (item_within arm.item placed.0.item) target_in)))

  tests_within : (target : ℕ) → target < slots → (tests : List Test) → AllByRecursion (λ (test : Test). test.name < count) tests
      → AllByRecursion (IsWithin slots) (map (λ (test : Test). test_select target (slot_of test.name) (test.number + 2)) tests)
  tests_within target target_in [] placed = tt
  tests_within target target_in (test ∷ tests) placed =
      (record { target = target_in; tested = omega (arith, placed.0, room); when_equal = omega (arith, room); otherwise = target_in }, tests_within target target_in tests placed.1)

  right_within : (cell target : ℕ) → cell < slots → target < slots → (right : Right) → IsPlacedRight count right → All (IsWithin slots) (right_selects cell target right)
  right_within cell target cell_in target_in (Delayed first source) placed = one_within (copy target cell) (copy_within target cell target_in cell_in)
  right_within cell target cell_in target_in (Chosen arms otherwise) placed =
      All-append (IsWithin slots) (copy target (item_slot otherwise) ∷ []) (arms_selects target arms.items)
      (one_within (copy target (item_slot otherwise)) (copy_within target (item_slot otherwise) target_in (item_within otherwise placed.1)))
      (arms_within target target_in arms.items (recursion_from_All (IsPlacedArm count) arms.items placed.0))
  right_within cell target cell_in target_in (Tested tests) placed =
      All-from_recursion (IsWithin slots) (tests_selects target tests.items)
      (copy_within target 0 target_in (omega (arith, room)), tests_within target target_in tests.items (recursion_from_All (λ (test : Test). test.name < count) tests.items placed))

  equation_within : (equation : Equation) → IsPlacedEquation count equation → All (IsWithin slots) (equation_selects count equation)
  equation_within equation placed =
      right_within (cell_of count equation.left) (slot_of equation.left) (omega (arith, placed.left, room)) (omega (arith, placed.left, room)) equation.right placed.right

  latch_within : (cell : ℕ) → cell < slots → (right : Right) → IsPlacedRight count right → All (IsWithin slots) (latch_of cell right)
  latch_within cell cell_in (Delayed first source) below = one_within (copy cell (slot_of source)) (copy_within cell (slot_of source) cell_in (omega (arith, below, room)))
  latch_within cell cell_in (Chosen arms otherwise) placed = All-from_recursion (IsWithin slots) [] tt
  latch_within cell cell_in (Tested tests) placed = All-from_recursion (IsWithin slots) [] tt

  each_within : (selects : Equation → List Select) → ((equation : Equation) → IsPlacedEquation count equation → All (IsWithin slots) (selects equation))
      → (equations : List Equation) → AllByRecursion (IsPlacedEquation count) equations → All (IsWithin slots) (flat_map selects equations)
  each_within selects each [] placed = All-from_recursion (IsWithin slots) [] tt
  each_within selects each (equation ∷ equations) placed =
      All-append (IsWithin slots) (selects equation) (flat_map selects equations) (each equation placed.0) (each_within selects each equations placed.1)

  selects_within : (equations : List Equation) → AllByRecursion (IsPlacedEquation count) equations → All (IsWithin slots) (node_selects count equations)
  selects_within equations placed =
      All-append (IsWithin slots) (flat_map (equation_selects count) equations) (flat_map (latch_selects count) equations)
      (each_within (equation_selects count) equation_within equations placed)
      (each_within (latch_selects count)
      (λ equation is. latch_within (cell_of count equation.left) (omega (arith, is.left, room)) equation.right is.right) equations placed)

-- ---- whole replays

narrow : (inputs : List (List ℕ)) → length inputs ≤ 16 → cond (has_only_tick inputs) 0 (length inputs) ≤ length inputs
narrow inputs few = by_cases (has_only_tick inputs) where
  by_cases : (only : Bool) → cond only 0 (length inputs) ≤ length inputs
  by_cases true = omega arith
  by_cases false = omega arith

module _ (node : Node) (well : IsWellNamed node) (form : IsSpellable node) (exists : TraceExists) (equations : List Equation)
    (same : map (seen_equation (names_of node)) equations ≡ node.equations) (count : ℕ) (counted : count ≡ length (names_of node)) (store : List ℕ) (of : IsStoreOf count equations store) where
  placed : AllByRecursion (IsPlacedEquation (length (names_of node))) equations
  placed = placed_equations node form equations same (length (names_of node)) (omega arith)

  fresh : IsFresh (length (names_of node) + length (names_of node)) of.fresh
  fresh = subst (λ (n : ℕ). IsFresh (n + n) of.fresh) counted of.is

  starts : Runs node well exists equations same placed None (fold (after_cell first_cell (length (names_of node))) of.fresh equations)
  starts =
      let set = cells_set (names_of node) (apart node well exists equations same placed) None equations (order node well exists equations same placed) placed of.fresh (omega (arith, fresh.long)) in
      record {
        long = omega (arith, set.long, fresh.long);
        literals = λ number small. set.low number (omega (arith, small)) ∙ fresh.literals number small;
        tick = λ only. set.low (slot_of 0) (omega (arith, count_of node well exists equations same placed)) ∙ fresh.names (slot_of 0) (omega arith);
        cells = set.cells;
      }

  store_is : fold (after_cell first_cell (length (names_of node))) of.fresh equations ≡ store
  store_is = ap (λ (n : ℕ). fold (after_cell first_cell n) of.fresh equations) (sym counted) ∙ sym of.set

  selects_are : node_selects (length (names_of node)) equations ≡ node_selects count equations
  selects_are = ap (λ (n : ℕ). node_selects n equations) (sym counted)

  pub follows_of_node : Follows (Lustre node) [] (record {
    program = record { width = width_of node; steps = Selects (slot_of 0) (node_selects count equations) (slot_of (length node.inputs)) };
    store = store;
  })
  follows_of_node =
      subst (Follows (Lustre node) [])
      (λ i. record { program = record { width = width_of node; steps = Selects (slot_of 0) (selects_are i) (slot_of (length node.inputs)) }; store = store_is i })
      (follows_node node well exists equations same placed (fold (after_cell first_cell (length (names_of node))) of.fresh equations) starts)

  pub is_replay_of_node : IsReplay (record {
    program = record { width = width_of node; steps = Selects (slot_of 0) (node_selects count equations) (slot_of (length node.inputs)) };
    store = store;
  })
  is_replay_of_node =
      let long = subst (λ (s : List ℕ). first_name + (length (names_of node) + length (names_of node)) < length s) store_is starts.long in
      let total = count_of node well exists equations same placed in
      let few = few_inputs node well in
      let thin = narrow node.inputs (few_inputs node well) in
      record {
        width = omega (arith, few, thin);
        steps = record {
          variables = omega (arith, thin, total, long);
          answered = omega (arith, total, long);
          within = subst (All (IsWithin (length store))) selects_are (selects_within (length (names_of node)) (length store) long equations placed);
        };
      }
