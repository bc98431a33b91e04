-- What the grammar asks of the words of a unit that stands in a text.
--     AreWords placed      its names are names of the subset, its numbers are small enough, and its items are one or the other
use Rattle.std.specs.Prelude.{◌<◌, IsTrue, length, Option, Some, None}
use Rattle.std.specs.List.{AllByRecursion}
use Rattle.dcv_lexer.specs.Cuts.{Token}
use Rattle.dcv_observer.specs.Classes.{is_small_number}
use Rattle.dcv_c.specs.Placed.{PlacedUnit, PlacedAssignment, PlacedStatement, PlacedAssign, PlacedWhen, PlacedRight, PlacedPlain, PlacedChosen}
use Rattle.dcv_c.specs.Placed.{PlacedChoice, PlacedReturned, PlacedFixed, PlacedRead, PlacedTested, PlacedTest, item_at}
use Rattle.dcv_c.specs.Form.{IsName, IsItem}

abbrev pub IsNameWord : Token → Type 0
IsNameWord token = IsName token.bytes

abbrev pub IsNumberWord : Token → Type 0
IsNumberWord token = IsTrue (is_small_number token.bytes)

-- none, or a number
abbrev pub IsNumberOrNone : Option Token → Type 0
IsNumberOrNone None = Unit {0}
IsNumberOrNone (Some token) = IsNumberWord token

abbrev pub IsItemWord : Token → Type 0
IsItemWord token = IsItem (item_at token)

pub record AreWordsOfAssignment (assignment : PlacedAssignment) : Type 0 where
  pub name : IsNameWord assignment.name
  pub number : IsNumberWord assignment.number

pub record AreWordsOfTest (test : PlacedTest) : Type 0 where
  pub name : IsNameWord test.name
  pub number : IsNumberWord test.number

pub record AreWordsOfChoice (choice : PlacedChoice) : Type 0 where
  pub number : IsNumberOrNone choice.number
  pub item : IsItemWord choice.item
  pub otherwise : IsItemWord choice.otherwise

abbrev pub AreWordsOfRight : PlacedRight → Type 0
AreWordsOfRight (PlacedPlain item) = IsItemWord item
AreWordsOfRight (PlacedChosen name choice) = IsNameWord name × AreWordsOfChoice choice

abbrev pub AreWordsOfStatement : PlacedStatement → Type 0
AreWordsOfStatement (PlacedAssign left right) = IsNameWord left × AreWordsOfRight right
AreWordsOfStatement (PlacedWhen name number left item) = IsNameWord name × IsNumberOrNone number × IsNameWord left × IsItemWord item

abbrev pub AreWordsOfReturned : PlacedReturned → Type 0
AreWordsOfReturned (PlacedFixed number) = IsNumberWord number
AreWordsOfReturned (PlacedRead name) = IsNameWord name
AreWordsOfReturned (PlacedTested tests) = (0 < length tests) × AllByRecursion AreWordsOfTest tests

pub record AreWords (placed : PlacedUnit) : Type 0 where
  pub some_static : 0 < length placed.statics
  pub statics : AllByRecursion IsNameWord placed.statics
  pub reset : IsNameWord placed.reset
  pub assignments : AllByRecursion AreWordsOfAssignment placed.assignments
  pub step : IsNameWord placed.step
  pub parameters : AllByRecursion IsNameWord placed.parameters
  pub locals : AllByRecursion IsNameWord placed.locals
  pub statements : AllByRecursion AreWordsOfStatement placed.statements
  pub returned : AreWordsOfReturned placed.returned
