-- The names of a unit that keeps the rules differ, and each place that a statement names is that of a name.
use Rattle.std.proofs.Common.{◌≡◌, ℕ, ◌+◌, ◌<◌, ◌≤◌, true, false, ◌&&◌, nat_lt, List, [], ◌∷◌, ◌++◌, length, map, get_or, inl, inr, refl, subst, arith}
use Rattle.std.specs.List.{AllByRecursion}
use Rattle.std.proofs.lemmas.List.{get_or_past}
use Rattle.std.proofs.lemmas.List.Elements.{All-from_recursion}
use Rattle.std.proofs.lemmas.Bool.{and_parts, and_from, cases_lt, ltb-true, false≢true}
use Rattle.dcv_observer.specs.declared.conditions.Condition.{Condition}
use Rattle.dcv_observer.specs.declared.conditions.Condition.TheVariants.{Holds, Equals}
use Rattle.dcv_observer.specs.declared.conditions.Test.{Test}
use Rattle.dcv_observer.specs.Naming.{is_among, AreDistinct}
use Rattle.dcv_observer.proofs.Naming.{Name, among_here, among_append_left, among_append_right, among_append_cases, distinct_append}
use Rattle.dcv_c.specs.declared.unit.Item.{Item}
use Rattle.dcv_c.specs.declared.unit.Item.TheVariants.{Constant, Named}
use Rattle.dcv_c.specs.declared.unit.Right.{Right}
use Rattle.dcv_c.specs.declared.unit.Right.TheVariants.{Plain, Chosen}
use Rattle.dcv_c.specs.declared.unit.Statement.{Statement}
use Rattle.dcv_c.specs.declared.unit.Statement.TheVariants.{Assign, When}
use Rattle.dcv_c.specs.declared.unit.Returned.{Returned}
use Rattle.dcv_c.specs.declared.unit.Returned.TheVariants.{Fixed, Read, Tested}
use Rattle.dcv_c.specs.declared.unit.Assignment.{Assignment}
use Rattle.dcv_c.specs.Tree.{CUnit}
use Rattle.dcv_c.specs.Form.{IsName, IsItem, IsCondition, IsRight, IsStatement, IsTest, IsReturned, IsAssignment}
use Rattle.dcv_c.specs.Rules.{keeps_new, keeps_apart, keeps_parameters, before_step, before_parameters, before_locals, IsWellNamed}
use Rattle.dcv_c.specs.Seen.{seen_item, seen_condition, seen_right, seen_statement, seen_test, seen_returned, seen_assignment}
use Rattle.dcv_c.proofs.KeptRules.{all_kept, kept_rules}
use Rattle.dcv_c.proofs.LeftOver.{apart_from}
use Rattle.dcv_replay.specs.OfUnit.{IsPlacedItem, IsPlacedCondition, IsPlacedRight, IsPlacedStatement, IsPlacedReturned}

-- ---- names that differ

distinct_kept : (earlier names : List Name) → all_kept (keeps_apart earlier names) ≡ true → AreDistinct names
distinct_kept earlier [] kept = tt
distinct_kept earlier (name ∷ names) kept =
    let parts = and_parts (keeps_new earlier name) _ kept in
    (apart_from (earlier ++ name ∷ []) names parts.1 name (among_append_right earlier (name ∷ []) name (among_here [] name)), distinct_kept (earlier ++ name ∷ []) names parts.1)

parameters_apart : (earlier : List Name) (place : ℕ) (names : List Name) → all_kept (keeps_parameters earlier place names) ≡ true → all_kept (keeps_apart earlier names) ≡ true
parameters_apart earlier place [] kept = refl
parameters_apart earlier place (name ∷ names) kept =
    let parts = and_parts (keeps_new earlier name && nat_lt place 16) _ kept in
    and_from (keeps_new earlier name) _ (and_parts (keeps_new earlier name) _ parts.0).0 (parameters_apart (earlier ++ name ∷ []) (place + 1) names parts.1)

parameters_few : (earlier : List Name) (place : ℕ) (names : List Name) → place ≤ 16 → all_kept (keeps_parameters earlier place names) ≡ true → place + length names ≤ 16
parameters_few earlier place [] fits kept = omega arith
parameters_few earlier place (name ∷ names) fits kept =
    let parts = and_parts (keeps_new earlier name && nat_lt place 16) _ kept in
    let small = ltb-true place 16 (and_parts (keeps_new earlier name) _ parts.0).1 in
    omega (arith, parameters_few (earlier ++ name ∷ []) (place + 1) names (omega (arith, small)) parts.1)

module _ (unit : CUnit) (well : IsWellNamed unit) where
  static_before : (name : Name) → is_among unit.statics name ≡ true → is_among (before_parameters unit) name ≡ true
  static_before name there = among_append_left (before_step unit) (unit.step ∷ []) name (among_append_left unit.statics (unit.reset ∷ []) name there)

  -- a static or a parameter is no local
  pub first_apart : (name : Name) → is_among (unit.statics ++ unit.parameters) name ≡ true → is_among unit.locals name ≡ false
  first_apart name there = apart_from (before_locals unit) unit.locals (kept_rules unit well).locals name (elim (among_append_cases unit.statics unit.parameters name there) [
    | inl static ↦ among_append_left (before_parameters unit) unit.parameters name (static_before name static)
    | inr parameter ↦ among_append_right (before_parameters unit) unit.parameters name parameter
  ])

  parameters_kept : all_kept (keeps_apart (before_parameters unit) unit.parameters) ≡ true
  parameters_kept = parameters_apart (before_parameters unit) 0 unit.parameters (kept_rules unit well).parameters

  pub first_distinct : AreDistinct (unit.statics ++ unit.parameters)
  first_distinct = distinct_append unit.statics unit.parameters (distinct_kept [] unit.statics (kept_rules unit well).statics)
      (distinct_kept (before_parameters unit) unit.parameters parameters_kept)
      (λ name there. apart_from (before_parameters unit) unit.parameters parameters_kept name (static_before name there))

  pub all_distinct : AreDistinct ((unit.statics ++ unit.parameters) ++ unit.locals)
  all_distinct = distinct_append (unit.statics ++ unit.parameters) unit.locals first_distinct (distinct_kept (before_locals unit) unit.locals (kept_rules unit well).locals) first_apart

  pub few_parameters : length unit.parameters ≤ 16
  few_parameters = omega (arith, parameters_few (before_parameters unit) 0 unit.parameters (omega arith) (kept_rules unit well).parameters)

-- ---- places

no_name : IsName [] → ⊥
no_name name = false≢true name

module _ (names : List Name) (most : ℕ) (fits : length names ≤ most) where
  -- after the last name there is none
  placed : (place : ℕ) → IsName (get_or names place []) → place < most
  placed place name = elim (cases_lt place (length names)) [
    | inl below ↦ omega (arith, below, fits)
    | inr past ↦ absurd (no_name (subst IsName (get_or_past names place [] past) name))
  ]

  placed_item : (item : Item) → IsItem (seen_item names item) → IsPlacedItem most item
  placed_item (Constant number) small = omega (arith, small)
  placed_item (Named place) name = placed place name

  placed_condition : (condition : Condition) → IsCondition (seen_condition names condition) → IsPlacedCondition most condition
  placed_condition (Holds place) name = placed place name
  placed_condition (Equals place number) name = placed place name.0

  placed_right : (right : Right) → IsRight (seen_right names right) → IsPlacedRight most right
  placed_right (Plain item) is = placed_item item is
  placed_right (Chosen condition item otherwise) is = (placed_condition condition is.0, placed_item item is.1, placed_item otherwise is.2)

  placed_statement : (statement : Statement) → IsStatement (seen_statement names statement) → IsPlacedStatement most statement
  placed_statement (Assign left right) is = (placed left is.0, placed_right right is.1)
  placed_statement (When condition left item) is = (placed_condition condition is.0, placed left is.1, placed_item item is.2)

  pub statements_by_recursion : (statements : List Statement) → AllByRecursion IsStatement (map (seen_statement names) statements) → AllByRecursion (IsPlacedStatement most) statements
  statements_by_recursion [] are = tt
  statements_by_recursion (statement ∷ statements) are = (placed_statement statement are.0, statements_by_recursion statements are.1)

  placed_tests : (tests : List Test) → AllByRecursion IsTest (map (seen_test names) tests) → AllByRecursion (λ (test : Test). test.name < most) tests
  placed_tests [] are = tt
  placed_tests (test ∷ tests) are = (placed test.name are.0.name, placed_tests tests are.1)

  pub returned_by_form : (returned : Returned) → IsReturned (seen_returned names returned) → IsPlacedReturned most returned
  returned_by_form (Fixed number) is = tt
  returned_by_form (Read place) is = placed place is
  returned_by_form (Tested tests) is = All-from_recursion (λ (test : Test). test.name < most) tests.items (placed_tests tests.items is.1)

  pub assignments_by_recursion : (assignments : List Assignment) → AllByRecursion IsAssignment (map (seen_assignment names) assignments)
      → AllByRecursion (λ (assignment : Assignment). assignment.name < most) assignments
  assignments_by_recursion [] are = tt
  assignments_by_recursion (assignment ∷ assignments) are = (placed assignment.name are.0.name, assignments_by_recursion assignments are.1)
