-- What the grammar asks of the words of a node that stands in a text.
--     AreWords placed      its names are names of the subset, its numbers are small enough, and its items are one or the other
use Rattle.std.specs.Prelude.{◌<◌, IsTrue, length, Option, Some, None}
use Rattle.std.specs.List.{AllByRecursion}
use Rattle.dcv_lexer.specs.Cuts.{Token}
use Rattle.dcv_observer.specs.Classes.{is_small_number}
use Rattle.dcv_lustre.specs.Placed.{PlacedNode, PlacedLocal, PlacedEquation, PlacedRight, PlacedDelayed, PlacedChosen, PlacedTested, PlacedArm, PlacedTest}
use Rattle.dcv_lustre.specs.Placed.{is_constant, value_at, item_at}
use Rattle.dcv_lustre.specs.Form.{IsName, IsValue, IsItem}

abbrev pub IsNameWord : Token → Type 0
IsNameWord token = IsName token.bytes

abbrev pub IsNumberWord : Token → Type 0
IsNumberWord token = IsTrue (is_small_number token.bytes)

-- none, or a number
abbrev pub IsNumberOrNone : Option Token → Type 0
IsNumberOrNone None = Unit {0}
IsNumberOrNone (Some token) = IsNumberWord token

-- a number, `true` or `false`
pub record IsLiteralWord (token : Token) : Type 0 where
  pub constant : IsTrue (is_constant token.bytes)
  pub value : IsValue (value_at token)

abbrev pub IsItemWord : Token → Type 0
IsItemWord token = IsItem (item_at token)

-- none, or a name
abbrev pub IsNameOrNone : Option Token → Type 0
IsNameOrNone None = Unit {0}
IsNameOrNone (Some token) = IsNameWord token

pub record AreWordsOfArm (arm : PlacedArm) : Type 0 where
  pub name : IsNameWord arm.name
  pub number : IsNumberOrNone arm.number
  pub item : IsItemWord arm.item

pub record AreWordsOfTest (test : PlacedTest) : Type 0 where
  pub name : IsNameWord test.name
  pub number : IsNumberWord test.number

abbrev pub AreWordsOfRight : PlacedRight → Type 0
AreWordsOfRight (PlacedDelayed first source) = IsValue (value_at first) × IsNameWord source
AreWordsOfRight (PlacedChosen arms otherwise) = AllByRecursion AreWordsOfArm arms × IsItemWord otherwise
AreWordsOfRight (PlacedTested tests) = (0 < length tests) × AllByRecursion AreWordsOfTest tests

pub record AreWordsOfEquation (equation : PlacedEquation) : Type 0 where
  pub left : IsNameWord equation.left
  pub right : AreWordsOfRight equation.right

pub record AreWords (placed : PlacedNode) : Type 0 where
  pub name : IsNameWord placed.name
  pub some_input : 0 < length placed.inputs
  pub inputs : AllByRecursion IsNameWord placed.inputs
  pub locals : AllByRecursion (λ (local : PlacedLocal). IsNameWord local.name) placed.locals
  pub equations : AllByRecursion AreWordsOfEquation placed.equations
