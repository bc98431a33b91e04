-- A node of the flat subset of Lustre as plain data.
--     Value        a truth or a number, as a constant of the text or as what a name has at an instant
--     Kind         of a value
--     Item         a constant, or what a name has
--     Condition    what has to hold for an arm of a choice to be taken: a name, or that a name is a number
--     Right        what an equation says that its left side is
--     Node         inputs, locals and equations
use Rattle.std.specs.Prelude.{ℕ, Bool, List}
pub use Rattle.dcv_observer.specs.Conditions.{Condition, Holds, Equals, Test}

pub data Value : Type 0 where
  Truth : (truth : Bool) → Value
  Number : (number : ℕ) → Value

pub data Kind : Type 0 where
  OfTruth : Kind
  OfNumber : Kind

pub data Item : Type 0 where
  Constant : (value : Value) → Item
  Named : (name : List ℕ) → Item

-- `if condition then item`
pub record Arm : Type 0 where
  pub condition : Condition
  pub item : Item

pub data Right : Type 0 where
  -- `first -> pre source`
  Delayed : (first : Value) → (source : List ℕ) → Right
  -- the item of the first arm whose condition holds, and otherwise the last one; there may be no arm
  Chosen : (arms : List Arm) → (otherwise : Item) → Right
  -- one of the tests
  Tested : (tests : List Test) → Right

pub record Equation : Type 0 where
  pub left : List ℕ
  pub right : Right

pub record Local : Type 0 where
  pub name : List ℕ
  pub kind : Kind

pub record Node : Type 0 where
  pub name : List ℕ
  pub inputs : List (List ℕ)
  pub locals : List Local
  pub equations : List Equation
