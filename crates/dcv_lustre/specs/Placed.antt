-- A node as it stands in a text, with a token for each name, constant and kind.
--     PlacedNode             the node
--     node_of placed         the node as plain data
use Rattle.std.specs.Prelude.{ℕ, Bool, ◌||◌, bytes_eq, List, map, Option, Some, None, if◌then◌else◌, codes}
use Rattle.dcv_lexer.specs.Lexicon.{is_number}
use Rattle.dcv_lexer.specs.Cuts.{Token}
use Rattle.dcv_lexer.specs.Decimal.{value_of}
use Rattle.dcv_lustre.specs.Tree.{Value, Truth, Number, Kind, OfTruth, OfNumber, Item, Constant, Named, Condition, Holds, Equals, Arm, Test, Right}
use Rattle.dcv_lustre.specs.Tree.{Delayed, Chosen, Tested, Equation, Local, Node}

pub record PlacedArm : Type 0 where
  pub name : Token
  -- where the condition compares
  pub number : Option Token
  pub item : Token

pub record PlacedTest : Type 0 where
  pub name : Token
  pub number : Token

pub data PlacedRight : Type 0 where
  PlacedDelayed : (first : Token) → (source : Token) → PlacedRight
  PlacedChosen : (arms : List PlacedArm) → (otherwise : Token) → PlacedRight
  PlacedTested : (tests : List PlacedTest) → PlacedRight

pub record PlacedEquation : Type 0 where
  pub left : Token
  pub right : PlacedRight

pub record PlacedLocal : Type 0 where
  pub name : Token
  pub kind : Token

pub record PlacedNode : Type 0 where
  pub name : Token
  pub inputs : List Token
  -- the word `ok` after `returns`
  pub output : Token
  pub locals : List PlacedLocal
  pub equations : List PlacedEquation
  -- the last word
  pub tel : Token

-- ---- as plain data

abbrev pub is_true_word : List ℕ → Bool
is_true_word bytes = bytes_eq bytes (codes "true")

-- of a number, `true` or `false`
abbrev pub value_at : Token → Value
value_at token = if is_number token.bytes then Number (value_of token.bytes) else Truth (is_true_word token.bytes)

abbrev pub is_constant : List ℕ → Bool
is_constant bytes = is_number bytes || is_true_word bytes || bytes_eq bytes (codes "false")

abbrev pub item_at : Token → Item
item_at token = if is_constant token.bytes then Constant (value_at token) else Named token.bytes

abbrev pub kind_at : Token → Kind
kind_at token = if bytes_eq token.bytes (codes "bool") then OfTruth else OfNumber

abbrev pub condition_of : List ℕ → Option Token → Condition
condition_of name None = Holds name
condition_of name (Some number) = Equals name (value_of number.bytes)

abbrev pub arm_of : PlacedArm → Arm
arm_of arm = record { condition = condition_of arm.name.bytes arm.number; item = item_at arm.item }

abbrev pub test_of : PlacedTest → Test
test_of test = record { name = test.name.bytes; number = value_of test.number.bytes }

abbrev pub right_of : PlacedRight → Right
right_of (PlacedDelayed first source) = Delayed (value_at first) source.bytes
right_of (PlacedChosen arms otherwise) = Chosen (map arm_of arms) (item_at otherwise)
right_of (PlacedTested tests) = Tested (map test_of tests)

abbrev pub equation_of : PlacedEquation → Equation
equation_of equation = record { left = equation.left.bytes; right = right_of equation.right }

abbrev pub local_of : PlacedLocal → Local
local_of local = record { name = local.name.bytes; kind = kind_at local.kind }

abbrev pub bytes_of : List Token → List (List ℕ)
bytes_of tokens = map (λ (token : Token). token.bytes) tokens

abbrev pub node_of : PlacedNode → Node
node_of placed =
    record {
      name = placed.name.bytes;
      inputs = bytes_of placed.inputs;
      locals = map local_of placed.locals;
      equations = map equation_of placed.equations;
    }
