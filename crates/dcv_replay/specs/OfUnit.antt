-- The selections of a unit of C.
--     statement_select statement           what a statement does
--     returned_selects answer returned     whether a number other than 0 is returned, as 1 or 0
--     after_assignment store assignment    the store after an assignment of the function that sets the statics
--     IsPlaced..                           places are below a bound, and constants have slots
use Rattle.std.specs.Prelude.{◌≡◌, ℕ, ◌<◌, ◌==◌, if◌then◌else◌, List, [], ◌∷◌, ◌++◌, map, fold, slice_set}
use Rattle.std.specs.List.{All}
use Rattle.dcv_observer.specs.declared.conditions.Condition.{Condition}
use Rattle.dcv_observer.specs.declared.conditions.Condition.TheVariants.{Holds, Equals}
use Rattle.dcv_observer.specs.declared.conditions.Test.{Test}
use Rattle.dcv_c.specs.declared.unit.Item.{Item}
use Rattle.dcv_c.specs.declared.unit.Item.TheVariants.{Constant, Named}
use Rattle.dcv_c.specs.declared.unit.Right.{Right}
use Rattle.dcv_c.specs.declared.unit.Right.TheVariants.{Plain, Chosen}
use Rattle.dcv_c.specs.declared.unit.Statement.{Statement}
use Rattle.dcv_c.specs.declared.unit.Statement.TheVariants.{Assign, When}
use Rattle.dcv_c.specs.declared.unit.Returned.{Returned}
use Rattle.dcv_c.specs.declared.unit.Returned.TheVariants.{Fixed, Read, Tested}
use Rattle.dcv_c.specs.declared.unit.Assignment.{Assignment}
use Rattle.dcv_c.specs.Tree.{CUnit}
use Rattle.dcv_c.specs.Seen.{names_of, seen_assignment, seen_statement, seen_returned}
use Rattle.dcv_replay.specs.declared.replay.Select.{Select}
use Rattle.dcv_replay.specs.Program.{first_name}
use Rattle.dcv_replay.specs.Selecting.{select, copy, slot_of, test_select, IsFresh}

abbrev pub item_slot : Item → ℕ
item_slot (Constant number) = number
item_slot (Named place) = slot_of place

-- the number in the slot `held` where the condition holds, and else that in the other
abbrev pub choosing : ℕ → Condition → ℕ → ℕ → Select
choosing target (Holds place) held otherwise = select target (slot_of place) 0 otherwise held
choosing target (Equals place number) held otherwise = select target (slot_of place) number held otherwise

abbrev pub right_select : ℕ → Right → Select
right_select target (Plain item) = copy target (item_slot item)
right_select target (Chosen condition item otherwise) = choosing target condition (item_slot item) (item_slot otherwise)

abbrev pub statement_select : Statement → Select
statement_select (Assign left right) = right_select (slot_of left) right
statement_select (When condition left item) = choosing (slot_of left) condition (item_slot item) (slot_of left)

abbrev pub tests_selects : ℕ → List Test → List Select
tests_selects answer tests = copy answer 0 ∷ map (λ (test : Test). test_select answer (slot_of test.name) test.number) tests

abbrev pub returned_selects : ℕ → Returned → List Select
returned_selects answer (Fixed number) = copy answer (if number == 0 then 0 else 1) ∷ []
returned_selects answer (Read place) = choosing answer (Holds place) 1 0 ∷ []
returned_selects answer (Tested tests) = tests_selects answer tests.items

abbrev pub after_assignment : List ℕ → Assignment → List ℕ
after_assignment store assignment = slice_set store (slot_of assignment.name) assignment.number

-- a fresh store after the assignments
pub record IsResetStore (count : ℕ) (assignments : List Assignment) (store : List ℕ) : Type 0 where
  pub fresh : List ℕ
  pub is : IsFresh count fresh
  pub set : store ≡ fold after_assignment fresh assignments

-- the store once the statics are set
pub record IsStoreOf (unit : CUnit) (count : ℕ) (store : List ℕ) : Type 0 where
  pub assignments : List Assignment
  pub same : map (seen_assignment (names_of unit)) assignments ≡ unit.assignments
  pub fresh : List ℕ
  pub is : IsFresh count fresh
  pub set : store ≡ fold after_assignment fresh assignments

-- what a step does, and whether it returns another number than 0
pub record AreSelectsOf (unit : CUnit) (answer : ℕ) (selects : List Select) : Type 0 where
  pub code : List Statement
  pub same : map (seen_statement (names_of unit)) code ≡ unit.statements
  pub returned : Returned
  pub same_returned : seen_returned (names_of unit) returned ≡ unit.returned
  pub all : selects ≡ map statement_select code ++ returned_selects answer returned

-- ---- places

abbrev pub IsPlacedItem : ℕ → Item → Type 0
IsPlacedItem most (Constant number) = number < first_name
IsPlacedItem most (Named place) = place < most

abbrev pub IsPlacedCondition : ℕ → Condition → Type 0
IsPlacedCondition most (Holds place) = place < most
IsPlacedCondition most (Equals place number) = place < most

abbrev pub IsPlacedRight : ℕ → Right → Type 0
IsPlacedRight most (Plain item) = IsPlacedItem most item
IsPlacedRight most (Chosen condition item otherwise) = IsPlacedCondition most condition × IsPlacedItem most item × IsPlacedItem most otherwise

abbrev pub IsPlacedStatement : ℕ → Statement → Type 0
IsPlacedStatement most (Assign left right) = (left < most) × IsPlacedRight most right
IsPlacedStatement most (When condition left item) = IsPlacedCondition most condition × (left < most) × IsPlacedItem most item

abbrev pub ArePlacedTests : ℕ → List Test → Type 0
ArePlacedTests most tests = All (λ (test : Test). test.name < most) tests

abbrev pub IsPlacedReturned : ℕ → Returned → Type 0
IsPlacedReturned most (Fixed number) = Unit {0}
IsPlacedReturned most (Read place) = place < most
IsPlacedReturned most (Tested tests) = ArePlacedTests most tests.items

abbrev pub ArePlacedAssignments : ℕ → List Assignment → Type 0
ArePlacedAssignments most assignments = All (λ (assignment : Assignment). assignment.name < most) assignments
