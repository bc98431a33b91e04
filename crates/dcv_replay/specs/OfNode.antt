-- The selections of a node of Lustre.
--     cell_of count place               the slot that keeps, for the name at a place, what its equation takes from the instant before
--     equation_selects count equation   puts what the right side is into the slot of the left side
--     latch_selects count equation      keeps what the equation takes from this instant at the next one
--     after_cell, first_cell            a store once the cell of an equation is set
--     IsPlaced..                        places are below a bound, and constants have slots
-- Choices are made from the last arm to the first, each of which leaves what is there or takes its own item.
use Rattle.std.specs.Prelude.{◌≡◌, ℕ, ◌+◌, ◌<◌, List, [], ◌∷◌, ◌++◌, map, fold, reverse, slice_set}
use Rattle.std.specs.List.{All, flat_map}
use Rattle.dcv_observer.specs.declared.conditions.Condition.{Condition}
use Rattle.dcv_observer.specs.declared.conditions.Condition.TheVariants.{Holds, Equals}
use Rattle.dcv_observer.specs.declared.conditions.Test.{Test}
use Rattle.dcv_lustre.specs.declared.node.Value.{Value}
use Rattle.dcv_lustre.specs.declared.node.Item.{Item}
use Rattle.dcv_lustre.specs.declared.node.Item.TheVariants.{Constant, Named}
use Rattle.dcv_lustre.specs.declared.node.Arm.{Arm}
use Rattle.dcv_lustre.specs.declared.node.Right.{Right}
use Rattle.dcv_lustre.specs.declared.node.Right.TheVariants.{Delayed, Chosen, Tested}
use Rattle.dcv_lustre.specs.declared.node.Equation.{Equation}
use Rattle.dcv_lustre.specs.Seen.{seen_value}
use Rattle.dcv_replay.specs.declared.replay.Select.{Select}
use Rattle.dcv_replay.specs.Program.{first_name}
use Rattle.dcv_replay.specs.Observer.{value_number}
use Rattle.dcv_replay.specs.Selecting.{select, copy, slot_of, test_select, most_names, IsFresh}

abbrev pub constant_number : Value → ℕ
constant_number value = value_number (seen_value value)

abbrev pub item_slot : Item → ℕ
item_slot (Constant value) = constant_number value
item_slot (Named place) = slot_of place

-- the number in the slot `held` where the condition holds, and else that in the other
abbrev pub choosing : ℕ → Condition → ℕ → ℕ → Select
choosing target (Holds place) held otherwise = select target (slot_of place) 1 held otherwise
choosing target (Equals place number) held otherwise = select target (slot_of place) (number + 2) held otherwise

abbrev pub arm_select : ℕ → Arm → Select
arm_select target arm = choosing target arm.condition (item_slot arm.item) target

abbrev pub arms_selects : ℕ → List Arm → List Select
arms_selects target arms = map (arm_select target) (reverse arms)

abbrev pub tests_selects : ℕ → List Test → List Select
tests_selects target tests = copy target 0 ∷ map (λ (test : Test). test_select target (slot_of test.name) (test.number + 2)) tests

abbrev pub cell_of : ℕ → ℕ → ℕ
cell_of count place = slot_of (count + place)

abbrev pub right_selects : ℕ → ℕ → Right → List Select
right_selects cell target (Delayed first source) = copy target cell ∷ []
right_selects cell target (Chosen arms otherwise) = copy target (item_slot otherwise) ∷ arms_selects target arms.items
right_selects cell target (Tested tests) = tests_selects target tests.items

abbrev pub equation_selects : ℕ → Equation → List Select
equation_selects count equation = right_selects (cell_of count equation.left) (slot_of equation.left) equation.right

abbrev pub latch_of : ℕ → Right → List Select
latch_of cell (Delayed first source) = copy cell (slot_of source) ∷ []
latch_of cell (Chosen arms otherwise) = []
latch_of cell (Tested tests) = []

abbrev pub latch_selects : ℕ → Equation → List Select
latch_selects count equation = latch_of (cell_of count equation.left) equation.right

abbrev pub node_selects : ℕ → List Equation → List Select
node_selects count equations = flat_map (equation_selects count) equations ++ flat_map (latch_selects count) equations

-- once the cell of a delayed right side is set
abbrev pub with_cell : (Value → ℕ → ℕ) → ℕ → List ℕ → Right → List ℕ
with_cell number cell store (Delayed first source) = slice_set store cell (number first source)
with_cell number cell store (Chosen arms otherwise) = store
with_cell number cell store (Tested tests) = store

abbrev pub after_cell : (Value → ℕ → ℕ) → ℕ → List ℕ → Equation → List ℕ
after_cell number count store equation = with_cell number (cell_of count equation.left) store equation.right

-- a cell begins with the constant
abbrev pub first_cell : Value → ℕ → ℕ
first_cell first source = constant_number first

-- ---- places

abbrev pub IsPlacedItem : ℕ → Item → Type 0
IsPlacedItem most (Constant value) = constant_number value < first_name
IsPlacedItem most (Named place) = place < most

abbrev pub IsPlacedCondition : ℕ → Condition → Type 0
IsPlacedCondition most (Holds place) = place < most
IsPlacedCondition most (Equals place number) = place < most

pub record IsPlacedArm (most : ℕ) (arm : Arm) : Type 0 where
  pub condition : IsPlacedCondition most arm.condition
  pub item : IsPlacedItem most arm.item

abbrev pub ArePlacedTests : ℕ → List Test → Type 0
ArePlacedTests most tests = All (λ (test : Test). test.name < most) tests

abbrev pub IsPlacedRight : ℕ → Right → Type 0
IsPlacedRight most (Delayed first source) = source < most
IsPlacedRight most (Chosen arms otherwise) = All (IsPlacedArm most) arms.items × IsPlacedItem most otherwise
IsPlacedRight most (Tested tests) = ArePlacedTests most tests.items

pub record IsPlacedEquation (most : ℕ) (equation : Equation) : Type 0 where
  pub left : equation.left < most
  pub right : IsPlacedRight most equation.right

-- the equation's slots, and its cell among the last of so many names
pub record HasSlots (count : ℕ) (equation : Equation) : Type 0 where
  pub placed : IsPlacedEquation most_names equation
  pub left : equation.left < count

-- a fresh store once the cells are set
pub record IsStoreOf (count : ℕ) (equations : List Equation) (store : List ℕ) : Type 0 where
  pub fresh : List ℕ
  pub is : IsFresh (count + count) fresh
  pub set : store ≡ fold (after_cell first_cell count) fresh equations
