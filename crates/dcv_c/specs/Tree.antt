-- A unit of the flat subset of C as plain data.
--     Item          a number, or the number that a name has
--     Right         what is assigned: an item, or one of two by a condition
--     Statement     an assignment, or one that is made where a condition holds
--     Returned      what a step returns: a number, the number that a name has, or whether one of some tests passes
--     CUnit         its statics, the function that sets them, and the function that makes a step
use Rattle.std.specs.Prelude.{ℕ, List}
pub use Rattle.dcv_observer.specs.Conditions.{Condition, Holds, Equals, Test}

pub data Item : Type 0 where
  Constant : (number : ℕ) → Item
  Named : (name : List ℕ) → Item

pub data Right : Type 0 where
  Plain : (item : Item) → Right
  -- `condition ? item : otherwise`
  Chosen : (condition : Condition) → (item : Item) → (otherwise : Item) → Right

pub data Statement : Type 0 where
  -- `left = right;`
  Assign : (left : List ℕ) → (right : Right) → Statement
  -- `if (condition) left = item;`
  When : (condition : Condition) → (left : List ℕ) → (item : Item) → Statement

pub data Returned : Type 0 where
  Fixed : (number : ℕ) → Returned
  -- a name alone
  Read : (name : List ℕ) → Returned
  -- one of the tests
  Tested : (tests : List Test) → Returned

-- `name = number;`
pub record Assignment : Type 0 where
  pub name : List ℕ
  pub number : ℕ

pub record CUnit : Type 0 where
  pub statics : List (List ℕ)
  -- the name of the function that sets the statics
  pub reset : List ℕ
  pub assignments : List Assignment
  -- the name of the function that makes a step
  pub step : List ℕ
  pub parameters : List (List ℕ)
  pub locals : List (List ℕ)
  pub statements : List Statement
  pub returned : Returned
