-- A unit as it stands in a text, with a token for each name and number.
--     PlacedUnit             the unit
--     unit_of placed         the unit as plain data
use Rattle.std.specs.Prelude.{ℕ, List, map, Option, Some, None, if◌then◌else◌}
use Rattle.dcv_lexer.specs.Lexicon.{is_number}
use Rattle.dcv_lexer.specs.Cuts.{Token}
use Rattle.dcv_lexer.specs.Decimal.{value_of}
use Rattle.dcv_c.specs.Tree.{Item, Constant, Named, Condition, Holds, Equals, Test, Right, Plain, Chosen, Statement, Assign, When}
use Rattle.dcv_c.specs.Tree.{Returned, Fixed, Read, Tested, Assignment, CUnit}

pub record PlacedTest : Type 0 where
  pub name : Token
  pub number : Token

-- what stands after the name of a condition: the number, where the condition compares, and the two items
pub record PlacedChoice : Type 0 where
  pub number : Option Token
  pub item : Token
  pub otherwise : Token

pub data PlacedRight : Type 0 where
  PlacedPlain : (item : Token) → PlacedRight
  PlacedChosen : (name : Token) → (choice : PlacedChoice) → PlacedRight

pub data PlacedStatement : Type 0 where
  PlacedAssign : (left : Token) → (right : PlacedRight) → PlacedStatement
  PlacedWhen : (name : Token) → (number : Option Token) → (left : Token) → (item : Token) → PlacedStatement

-- what stands after the name of the first test: the number, and the other tests
pub record PlacedTests : Type 0 where
  pub number : Token
  pub others : List PlacedTest

pub data PlacedReturned : Type 0 where
  PlacedFixed : (number : Token) → PlacedReturned
  PlacedRead : (name : Token) → PlacedReturned
  PlacedTested : (tests : List PlacedTest) → PlacedReturned

pub record PlacedAssignment : Type 0 where
  pub name : Token
  pub number : Token

pub record PlacedUnit : Type 0 where
  pub statics : List Token
  pub reset : Token
  pub assignments : List PlacedAssignment
  -- the brace after the assignments
  pub reset_end : Token
  pub step : Token
  pub parameters : List Token
  pub locals : List Token
  pub statements : List PlacedStatement
  pub returned : PlacedReturned

-- ---- as plain data

abbrev pub item_at : Token → Item
item_at token = if is_number token.bytes then Constant (value_of token.bytes) else Named token.bytes

abbrev pub condition_of : List ℕ → Option Token → Condition
condition_of name None = Holds name
condition_of name (Some number) = Equals name (value_of number.bytes)

abbrev pub test_of : PlacedTest → Test
test_of test = record { name = test.name.bytes; number = value_of test.number.bytes }

abbrev pub right_of : PlacedRight → Right
right_of (PlacedPlain item) = Plain (item_at item)
right_of (PlacedChosen name choice) = Chosen (condition_of name.bytes choice.number) (item_at choice.item) (item_at choice.otherwise)

abbrev pub statement_of : PlacedStatement → Statement
statement_of (PlacedAssign left right) = Assign left.bytes (right_of right)
statement_of (PlacedWhen name number left item) = When (condition_of name.bytes number) left.bytes (item_at item)

abbrev pub returned_of : PlacedReturned → Returned
returned_of (PlacedFixed number) = Fixed (value_of number.bytes)
returned_of (PlacedRead name) = Read name.bytes
returned_of (PlacedTested tests) = Tested (map test_of tests)

abbrev pub assignment_of : PlacedAssignment → Assignment
assignment_of assignment = record { name = assignment.name.bytes; number = value_of assignment.number.bytes }

abbrev pub bytes_of : List Token → List (List ℕ)
bytes_of tokens = map (λ (token : Token). token.bytes) tokens

abbrev pub unit_of : PlacedUnit → CUnit
unit_of placed =
    record {
      statics = bytes_of placed.statics;
      reset = placed.reset.bytes;
      assignments = map assignment_of placed.assignments;
      step = placed.step.bytes;
      parameters = bytes_of placed.parameters;
      locals = bytes_of placed.locals;
      statements = map statement_of placed.statements;
      returned = returned_of placed.returned;
    }
