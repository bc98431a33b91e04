-- How clauses see a unit of the code that stands in a text: its items are the tokens of the definitions.
--     seen_unit placed      the unit
use Rattle.std.specs.Prelude.{map, option_map}
use Rattle.dcv_observer.specs.Left.{seen}
use Rattle.dcv_c.specs.Placed.{PlacedUnit, PlacedAssignment, PlacedStatement, PlacedAssign, PlacedWhen, PlacedRight, PlacedPlain, PlacedChosen}
use Rattle.dcv_c.specs.Placed.{PlacedChoice, PlacedReturned, PlacedFixed, PlacedRead, PlacedTested, PlacedTest}
use Rattle.dcv_c_read.specs.declared.placed.PlacedTest.{PlacedTest as CodeTest}
use Rattle.dcv_c_read.specs.declared.placed.PlacedChoice.{PlacedChoice as CodeChoice}
use Rattle.dcv_c_read.specs.declared.placed.PlacedRight.{PlacedRight as CodeRight}
use Rattle.dcv_c_read.specs.declared.placed.PlacedRight.TheVariants.{Plain as CodePlain, Chosen as CodeChosen}
use Rattle.dcv_c_read.specs.declared.placed.PlacedStatement.{PlacedStatement as CodeStatement}
use Rattle.dcv_c_read.specs.declared.placed.PlacedStatement.TheVariants.{Assign as CodeAssign, When as CodeWhen}
use Rattle.dcv_c_read.specs.declared.placed.PlacedWhen.{PlacedWhen as CodeWhenItem}
use Rattle.dcv_c_read.specs.declared.placed.PlacedReturned.{PlacedReturned as CodeReturned}
use Rattle.dcv_c_read.specs.declared.placed.PlacedReturned.TheVariants.{Fixed as CodeFixed, Read as CodeRead, Tested as CodeTested}
use Rattle.dcv_c_read.specs.declared.placed.PlacedAssignment.{PlacedAssignment as CodeAssignment}
use Rattle.dcv_c_read.specs.declared.placed.PlacedUnit.{PlacedUnit as CodeUnit}

abbrev pub seen_test : CodeTest → PlacedTest
seen_test test = record { name = seen test.name; number = seen test.number }

abbrev pub seen_choice : CodeChoice → PlacedChoice
seen_choice choice = record { number = option_map seen choice.number; item = seen choice.item; otherwise = seen choice.otherwise }

abbrev pub seen_right : CodeRight → PlacedRight
seen_right (CodePlain item) = PlacedPlain (seen item)
seen_right (CodeChosen name choice) = PlacedChosen (seen name) (seen_choice choice.value)

abbrev pub seen_when : CodeWhenItem → PlacedStatement
seen_when made = PlacedWhen (seen made.name) (option_map seen made.number) (seen made.left) (seen made.item)

abbrev pub seen_statement : CodeStatement → PlacedStatement
seen_statement (CodeAssign left right) = PlacedAssign (seen left) (seen_right right)
seen_statement (CodeWhen made) = seen_when made.value

abbrev pub seen_returned : CodeReturned → PlacedReturned
seen_returned (CodeFixed number) = PlacedFixed (seen number)
seen_returned (CodeRead name) = PlacedRead (seen name)
seen_returned (CodeTested tests) = PlacedTested (map seen_test tests.items)

abbrev pub seen_assignment : CodeAssignment → PlacedAssignment
seen_assignment assignment = record { name = seen assignment.name; number = seen assignment.number }

abbrev pub seen_unit : CodeUnit → PlacedUnit
seen_unit placed =
    record {
      statics = map seen placed.statics.items;
      reset = seen placed.reset.name;
      assignments = map seen_assignment placed.reset.assignments.items;
      reset_end = seen placed.reset.end;
      step = seen placed.step.name;
      parameters = map seen placed.step.parameters.items;
      locals = map seen placed.step.locals.items;
      statements = map seen_statement placed.step.statements.items;
      returned = seen_returned placed.step.returned;
    }
