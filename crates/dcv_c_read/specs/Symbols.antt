-- How clauses see the parts of the code. Their lists stand from the last element to the first.
--     seen_part part        the part
--     seen_words words      one that owns nothing
--     seen_tests tests      the tests of a result after its first name
--     seen_step step        the function that makes a step
--     IsMeant part          it is a part of some body
use Rattle.std.specs.Prelude.{map, reverse, option_map}
use Rattle.dcv_observer.specs.Left.{seen}
use Rattle.dcv_c.specs.Actions.{Part, AToken, Tokens, AnAssignment, Assignments, AReset, AStatement, Statements, ARight, Choice, Maybe, Compared}
use Rattle.dcv_c.specs.Actions.{AReturned, ATest, Tests, Behind, AStep, AUnit, Nothing}
use Rattle.dcv_c.specs.Placed.{PlacedTests}
use Rattle.dcv_c_read.specs.declared.placed.PlacedTests.{PlacedTests as CodeTestsBehind}
use Rattle.dcv_c_read.specs.declared.placed.PlacedStep.{PlacedStep as CodeStepFunction}
use Rattle.dcv_c_read.specs.declared.parts.Words.{Words as CodeWords}
use Rattle.dcv_c_read.specs.declared.parts.Words.TheVariants.{Token as CodeToken, Assignment as CodeAssignment, Maybe as CodeMaybe, Compared as CodeCompared}
use Rattle.dcv_c_read.specs.declared.parts.Words.TheVariants.{Test as CodeTest}
use Rattle.dcv_c_read.specs.declared.parts.Part.{Part as CodePart}
use Rattle.dcv_c_read.specs.declared.parts.Part.TheVariants.{Words as CodeWordsPart, Tokens as CodeTokens, Assignments as CodeAssignments}
use Rattle.dcv_c_read.specs.declared.parts.Part.TheVariants.{Reset as CodeReset, Statement as CodeStatement, Statements as CodeStatements}
use Rattle.dcv_c_read.specs.declared.parts.Part.TheVariants.{Right as CodeRight, Choice as CodeChoice, Returned as CodeReturned}
use Rattle.dcv_c_read.specs.declared.parts.Part.TheVariants.{Tests as CodeTests, Behind as CodeBehind, Step as CodeStep, Unit as CodeUnit}
use Rattle.dcv_c_read.specs.Seen.{seen_assignment, seen_statement, seen_right, seen_choice, seen_returned, seen_test, seen_unit}

abbrev pub seen_tests : CodeTestsBehind → PlacedTests
seen_tests tests = record { number = seen tests.number; others = reverse (map seen_test tests.others.items) }

abbrev pub seen_step : CodeStepFunction → Part
seen_step step =
    AStep (seen step.name) (map seen step.parameters.items) (map seen step.locals.items) (map seen_statement step.statements.items)
    (seen_returned step.returned)

abbrev pub seen_words : CodeWords → Part
seen_words (CodeToken item) = AToken (seen item)
seen_words (CodeAssignment assignment) = AnAssignment (seen_assignment assignment)
seen_words (CodeMaybe item) = Maybe (option_map seen item)
seen_words (CodeCompared name number) = Compared (seen name) (option_map seen number)
seen_words (CodeTest test) = ATest (seen_test test)

abbrev pub seen_part : CodePart → Part
seen_part (CodeWordsPart words) = seen_words words
seen_part (CodeTokens items) = Tokens (reverse (map seen items.items))
seen_part (CodeAssignments assignments) = Assignments (reverse (map seen_assignment assignments.items))
seen_part (CodeReset reset) = AReset (seen reset.name) (map seen_assignment reset.assignments.items) (seen reset.end)
seen_part (CodeStatement statement) = AStatement (seen_statement statement)
seen_part (CodeStatements statements) = Statements (reverse (map seen_statement statements.items))
seen_part (CodeRight right) = ARight (seen_right right)
seen_part (CodeChoice choice) = Choice (option_map (λ boxed. seen_choice boxed.value) choice)
seen_part (CodeReturned returned) = AReturned (seen_returned returned)
seen_part (CodeTests tests) = Tests (reverse (map seen_test tests.items))
seen_part (CodeBehind tests) = Behind (option_map seen_tests tests)
seen_part (CodeStep step) = seen_step step.value
seen_part (CodeUnit placed) = AUnit (seen_unit placed.value)

abbrev pub IsMeant : Part → Type 0
IsMeant Nothing = ⊥
IsMeant part = Unit {0}
