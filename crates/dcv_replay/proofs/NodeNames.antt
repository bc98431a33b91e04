-- The names of a node that keeps the rules differ, its inputs are few, and each place that an equation names is that of a name.
use Rattle.std.proofs.Common.{◌≡◌, ℕ, zero, suc, ◌+◌, ◌<◌, ◌≤◌, Bool, true, false, ◌||◌, nat_lt, nat_le, List}
use Rattle.std.proofs.Common.{[], ◌∷◌, ◌++◌, length, map, get_or, inl, inr, refl, sym, ap, subst, ◌∙◌, arith, length-append}
use Rattle.std.specs.List.{All, AllByRecursion, list_all, enumerate_from}
use Rattle.std.proofs.lemmas.List.{get_or_past}
use Rattle.std.proofs.lemmas.List.Elements.{All-from_recursion}
use Rattle.std.proofs.lemmas.Bool.{and_parts, cases_lt, ltb-true, false≢true}
use Rattle.dcv_observer.specs.declared.conditions.Condition.{Condition}
use Rattle.dcv_observer.specs.declared.conditions.Condition.TheVariants.{Holds, Equals}
use Rattle.dcv_observer.specs.declared.conditions.Test.{Test}
use Rattle.dcv_observer.proofs.Naming.{Name}
use Rattle.dcv_lustre.specs.declared.node.Value.{Value}
use Rattle.dcv_lustre.specs.declared.node.Value.TheVariants.{Truth, Number}
use Rattle.dcv_lustre.specs.declared.node.Item.{Item}
use Rattle.dcv_lustre.specs.declared.node.Item.TheVariants.{Constant, Named}
use Rattle.dcv_lustre.specs.declared.node.Arm.{Arm}
use Rattle.dcv_lustre.specs.declared.node.Right.{Right}
use Rattle.dcv_lustre.specs.declared.node.Right.TheVariants.{Delayed, Chosen, Tested}
use Rattle.dcv_lustre.specs.declared.node.Equation.{Equation}
use Rattle.dcv_lustre.specs.Tree.{Node}
use Rattle.dcv_lustre.specs.Meaning.{names_of, ok, local_names}
use Rattle.dcv_lustre.specs.Rules.{declared, keeps_declared, judged, IsWellNamed}
use Rattle.dcv_lustre.specs.Form.{IsName, IsValue, IsItem, IsCondition, IsArm, IsTest, IsRight, IsEquation, IsSpellable}
use Rattle.dcv_lustre.specs.Seen.{seen_value, seen_item, seen_condition, seen_arm, seen_test, seen_right, seen_equation}
use Rattle.dcv_replay.specs.Program.{first_name}
use Rattle.dcv_replay.specs.OfNode.{constant_number, IsPlacedItem, IsPlacedCondition, IsPlacedArm, IsPlacedRight, IsPlacedEquation, HasSlots}
use Rattle.dcv_replay.specs.Selecting.{most_names}

-- ---- inputs

-- the first of some judgements that are all that the rules are kept
all_of_first : (xs ys : List Bool) → list_all (λ keeps. keeps) (xs ++ ys) ≡ true → list_all (λ keeps. keeps) xs ≡ true
all_of_first [] ys kept = refl
all_of_first (true ∷ xs) ys kept = all_of_first xs ys kept
all_of_first (false ∷ xs) ys kept = absurd (false≢true kept)

module _ (node : Node) where
  room_at : (names : List Name) (place k : ℕ) → list_all (λ keeps. keeps) (map (λ numbered. keeps_declared node numbered.0 numbered.1) (enumerate_from place names)) ≡ true
      → k < length names → (nat_le (place + k) 16 || nat_lt (length node.inputs) (place + k)) ≡ true
  room_at [] place k kept below = absurd (omega (arith, below))
  room_at (name ∷ names) place zero kept below =
      (let e : place + 0 ≡ place = omega arith in ap (λ (n : ℕ). nat_le n 16 || nat_lt (length node.inputs) n) e)
      ∙ (and_parts _ (nat_le place 16 || nat_lt (length node.inputs) place) (and_parts (keeps_declared node place name) _ kept).0).1
  room_at (name ∷ names) place (suc k) kept below =
      (let e : place + suc k ≡ place + 1 + k = omega arith in ap (λ (n : ℕ). nat_le n 16 || nat_lt (length node.inputs) n) e)
      ∙ room_at names (place + 1) k (and_parts (keeps_declared node place name) _ kept).1 (omega (arith, below))

  pub few_inputs : IsWellNamed node → length node.inputs ≤ 16
  unfolding judged
  few_inputs well = elim (cases_lt (length node.inputs) 17) [
    | inl few ↦ omega (arith, few)
    | inr many ↦
        let all = all_of_first (map (λ numbered. keeps_declared node numbered.0 numbered.1) (enumerate_from 0 (declared node))) _ well in
        let room : nat_lt (length node.inputs) 17 ≡ true = room_at (declared node) 0 17 all (omega (arith, many, length-append node.inputs (ok ∷ local_names node))) in
        absurd (omega (arith, many, ltb-true (length node.inputs) 17 room))
  ]

-- ---- places

no_name : IsName [] → ⊥
no_name name = false≢true name

constant_small : (value : Value) → IsValue (seen_value value) → constant_number value < first_name
constant_small (Truth true) is = omega arith
constant_small (Truth false) is = omega arith
constant_small (Number number) is = omega (arith, is)

module _ (names : List Name) (most : ℕ) (fits : length names ≤ most) where
  -- after the last name there is none
  placed : (place : ℕ) → IsName (get_or names place []) → place < most
  placed place name = elim (cases_lt place (length names)) [
    | inl below ↦ omega (arith, below, fits)
    | inr past ↦ absurd (no_name (subst IsName (get_or_past names place [] past) name))
  ]

  placed_item : (item : Item) → IsItem (seen_item names item) → IsPlacedItem most item
  placed_item (Constant value) is = constant_small value is
  placed_item (Named place) name = placed place name

  placed_condition : (condition : Condition) → IsCondition (seen_condition names condition) → IsPlacedCondition most condition
  placed_condition (Holds place) name = placed place name
  placed_condition (Equals place number) name = placed place name.0

  placed_arms : (arms : List Arm) → AllByRecursion IsArm (map (seen_arm names) arms) → AllByRecursion (IsPlacedArm most) arms
  placed_arms [] are = tt
  placed_arms (arm ∷ arms) are =
      (record { condition = placed_condition arm.condition are.0.condition; item = placed_item arm.item are.0.item }, placed_arms arms are.1)

  placed_tests : (tests : List Test) → AllByRecursion IsTest (map (seen_test names) tests) → AllByRecursion (λ (test : Test). test.name < most) tests
  placed_tests [] are = tt
  placed_tests (test ∷ tests) are = (placed test.name are.0.name, placed_tests tests are.1)

  placed_right : (right : Right) → IsRight (seen_right names right) → IsPlacedRight most right
  placed_right (Delayed first source) is = placed source is.1
  placed_right (Chosen arms otherwise) is = (All-from_recursion (IsPlacedArm most) arms.items (placed_arms arms.items is.0), placed_item otherwise is.1)
  placed_right (Tested tests) is = All-from_recursion (λ (test : Test). test.name < most) tests.items (placed_tests tests.items is.1)

  placed_equation : (equation : Equation) → IsEquation (seen_equation names equation) → IsPlacedEquation most equation
  placed_equation equation is = record { left = placed equation.left is.left; right = placed_right equation.right is.right }

equations_placed : (names : List Name) (most : ℕ) → length names ≤ most → (equations : List Equation) → AllByRecursion IsEquation (map (seen_equation names) equations)
    → AllByRecursion (IsPlacedEquation most) equations
equations_placed names most fits [] are = tt
equations_placed names most fits (equation ∷ equations) are = (placed_equation names most fits equation are.0, equations_placed names most fits equations are.1)

slots_by_recursion : (count : ℕ) (equations : List Equation) → AllByRecursion (IsPlacedEquation most_names) equations → AllByRecursion (IsPlacedEquation count) equations
    → AllByRecursion (HasSlots count) equations
slots_by_recursion count [] first second = tt
slots_by_recursion count (equation ∷ equations) first second = (record { placed = first.0; left = second.0.left }, slots_by_recursion count equations first.1 second.1)

module _ (node : Node) (form : IsSpellable node) (equations : List Equation) (same : map (seen_equation (names_of node)) equations ≡ node.equations) where
  pub placed_equations : (most : ℕ) → length (names_of node) ≤ most → AllByRecursion (IsPlacedEquation most) equations
  placed_equations most fits = equations_placed (names_of node) most fits equations (subst (AllByRecursion IsEquation) (sym same) form.equations)

  pub have_slots : (count : ℕ) → count ≡ length (names_of node) → count + count ≤ most_names → All (HasSlots count) equations
  have_slots count is fits = All-from_recursion (HasSlots count) equations
      (slots_by_recursion count equations (placed_equations most_names (omega (arith, is, fits))) (placed_equations count (omega (arith, is))))
