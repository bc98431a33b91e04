-- A node of such words is spellable.
use Rattle.std.proofs.Common.{◌≡◌, ℕ, ◌≤◌, true, List, [], ◌∷◌, map, Option, Some, None, arith}
use Rattle.std.specs.Prelude.{nat_le}
use Rattle.std.specs.List.{AllByRecursion}
use Rattle.std.proofs.lemmas.List.{length-map}
use Rattle.std.proofs.lemmas.Bool.{and_parts}
use Rattle.std.proofs.lemmas.Bool.Decides.{nat_tests}
use Rattle.dcv_lexer.specs.Cuts.{Token}
use Rattle.dcv_lexer.specs.Lexicon.{is_number}
use Rattle.dcv_lexer.specs.Decimal.{value_of}
use Rattle.dcv_lustre.specs.Tree.{Local}
use Rattle.dcv_lustre.specs.Placed.{PlacedNode, PlacedLocal, PlacedEquation, PlacedRight, PlacedDelayed, PlacedChosen, PlacedTested, PlacedArm, PlacedTest}
use Rattle.dcv_lustre.specs.Placed.{node_of, local_of, equation_of, right_of, arm_of, test_of, condition_of, bytes_of}
use Rattle.dcv_lustre.specs.Form.{IsName, IsNumber, IsCondition, IsArm, IsTest, IsRight, IsEquation, IsSpellable}
use Rattle.dcv_lustre.specs.Words.{IsNameWord, IsNumberWord, IsNumberOrNone, AreWordsOfArm, AreWordsOfTest, AreWordsOfRight, AreWordsOfEquation, AreWords}

number_is : (token : Token) → IsNumberWord token → IsNumber (value_of token.bytes)
number_is token small =
    at_most (value_of token.bytes) (and_parts (is_number token.bytes) (nat_le (value_of token.bytes) 32767) small).1
  where
    at_most : (value : ℕ) → nat_le value 32767 ≡ true → value ≤ 32767
    at_most value test = grind (arith, nat_tests)

condition_is : (name : Token) (number : Option Token) → IsNameWord name → IsNumberOrNone number → IsCondition (condition_of name.bytes number)
condition_is name None is none = is
condition_is name (Some number) is small = (is, number_is number small)

arms_are : (arms : List PlacedArm) → AllByRecursion AreWordsOfArm arms → AllByRecursion IsArm (map arm_of arms)
arms_are [] words = tt
arms_are (arm ∷ arms) words = (record { condition = condition_is arm.name arm.number words.0.name words.0.number; item = words.0.item }, arms_are arms words.1)

tests_are : (tests : List PlacedTest) → AllByRecursion AreWordsOfTest tests → AllByRecursion IsTest (map test_of tests)
tests_are [] words = tt
tests_are (test ∷ tests) words = (record { name = words.0.name; number = number_is test.number words.0.number }, tests_are tests words.1)

right_is : (right : PlacedRight) → AreWordsOfRight right → IsRight (right_of right)
right_is (PlacedDelayed first source) words = words
right_is (PlacedChosen arms otherwise) words = (arms_are arms words.0, words.1)
right_is (PlacedTested tests) words = (omega (arith, words.0, length-map tests test_of), tests_are tests words.1)

equations_are : (equations : List PlacedEquation) → AllByRecursion AreWordsOfEquation equations → AllByRecursion IsEquation (map equation_of equations)
equations_are [] words = tt
equations_are (equation ∷ equations) words = (record { left = words.0.left; right = right_is equation.right words.0.right }, equations_are equations words.1)

inputs_are : (inputs : List Token) → AllByRecursion IsNameWord inputs → AllByRecursion IsName (bytes_of inputs)
inputs_are [] words = tt
inputs_are (input ∷ inputs) words = (words.0, inputs_are inputs words.1)

locals_are : (locals : List PlacedLocal) → AllByRecursion (λ (local : PlacedLocal). IsNameWord local.name) locals → AllByRecursion (λ (local : Local). IsName local.name) (map local_of locals)
locals_are [] words = tt
locals_are (local ∷ locals) words = (words.0, locals_are locals words.1)

pub words_are_spellable : (placed : PlacedNode) → AreWords placed → IsSpellable (node_of placed)
words_are_spellable placed words =
    record {
      name = words.name;
      some_input = omega (arith, words.some_input, length-map placed.inputs (λ (token : Token). token.bytes));
      inputs = inputs_are placed.inputs words.inputs;
      locals = locals_are placed.locals words.locals;
      equations = equations_are placed.equations words.equations;
    }
