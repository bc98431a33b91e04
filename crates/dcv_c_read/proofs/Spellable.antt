-- A unit of such words is spellable.
use Rattle.std.proofs.Common.{List, [], ◌∷◌, map, Option, Some, None, arith}
use Rattle.std.specs.Prelude.{nat_le}
use Rattle.std.specs.List.{AllByRecursion}
use Rattle.std.proofs.lemmas.List.{length-map}
use Rattle.std.proofs.lemmas.Bool.{and_parts, leb-true}
use Rattle.dcv_lexer.specs.Cuts.{Token}
use Rattle.dcv_lexer.specs.Lexicon.{is_number}
use Rattle.dcv_lexer.specs.Decimal.{value_of}
use Rattle.dcv_c.specs.Placed.{PlacedUnit, PlacedAssignment, PlacedStatement, PlacedAssign, PlacedWhen, PlacedRight, PlacedPlain, PlacedChosen}
use Rattle.dcv_c.specs.Placed.{PlacedReturned, PlacedFixed, PlacedRead, PlacedTested, PlacedTest}
use Rattle.dcv_c.specs.Placed.{unit_of, assignment_of, statement_of, right_of, returned_of, test_of, condition_of, bytes_of}
use Rattle.dcv_c.specs.Form.{IsName, IsNumber, IsCondition, IsTest, IsRight, IsStatement, IsReturned, IsAssignment, IsSpellable}
use Rattle.dcv_c.specs.Words.{IsNameWord, IsNumberWord, IsNumberOrNone, AreWordsOfAssignment, AreWordsOfTest, AreWordsOfRight}
use Rattle.dcv_c.specs.Words.{AreWordsOfStatement, AreWordsOfReturned, AreWords}

number_is : (token : Token) → IsNumberWord token → IsNumber (value_of token.bytes)
number_is token small =
    leb-true (value_of token.bytes) 32767 (and_parts (is_number token.bytes) (nat_le (value_of token.bytes) 32767) small).1

condition_is : (name : Token) (number : Option Token) → IsNameWord name → IsNumberOrNone number → IsCondition (condition_of name.bytes number)
condition_is name None is none = is
condition_is name (Some number) is small = (is, number_is number small)

tests_are : (tests : List PlacedTest) → AllByRecursion AreWordsOfTest tests → AllByRecursion IsTest (map test_of tests)
tests_are [] words = tt
tests_are (test ∷ tests) words = (record { name = words.0.name; number = number_is test.number words.0.number }, tests_are tests words.1)

assignments_are : (assignments : List PlacedAssignment) → AllByRecursion AreWordsOfAssignment assignments → AllByRecursion IsAssignment (map assignment_of assignments)
assignments_are [] words = tt
assignments_are (assignment ∷ assignments) words =
    (record { name = words.0.name; number = number_is assignment.number words.0.number }, assignments_are assignments words.1)

right_is : (right : PlacedRight) → AreWordsOfRight right → IsRight (right_of right)
right_is (PlacedPlain item) words = words
right_is (PlacedChosen name choice) words = (condition_is name choice.number words.0 words.1.number, words.1.item, words.1.otherwise)

statement_is : (statement : PlacedStatement) → AreWordsOfStatement statement → IsStatement (statement_of statement)
statement_is (PlacedAssign left right) words = (words.0, right_is right words.1)
statement_is (PlacedWhen name number left item) words = (condition_is name number words.0 words.1, words.2, words.3)

statements_are : (statements : List PlacedStatement) → AllByRecursion AreWordsOfStatement statements → AllByRecursion IsStatement (map statement_of statements)
statements_are [] words = tt
statements_are (statement ∷ statements) words = (statement_is statement words.0, statements_are statements words.1)

returned_is : (returned : PlacedReturned) → AreWordsOfReturned returned → IsReturned (returned_of returned)
returned_is (PlacedFixed number) words = number_is number words
returned_is (PlacedRead name) words = words
returned_is (PlacedTested tests) words = (omega (arith, words.0, length-map tests test_of), tests_are tests words.1)

names_are : (names : List Token) → AllByRecursion IsNameWord names → AllByRecursion IsName (bytes_of names)
names_are [] words = tt
names_are (name ∷ names) words = (words.0, names_are names words.1)

pub words_are_spellable : (placed : PlacedUnit) → AreWords placed → IsSpellable (unit_of placed)
words_are_spellable placed words =
    record {
      some_static = omega (arith, words.some_static, length-map placed.statics (λ (token : Token). token.bytes));
      statics = names_are placed.statics words.statics;
      reset = words.reset;
      assignments = assignments_are placed.assignments words.assignments;
      step = words.step;
      parameters = names_are placed.parameters words.parameters;
      locals = names_are placed.locals words.locals;
      statements = statements_are placed.statements words.statements;
      returned = returned_is placed.returned words.returned;
    }
