-- How clauses see a node of the code that stands in a text: its items are the tokens of the definitions.
--     seen_node placed      the node
use Rattle.std.specs.Prelude.{map, option_map}
use Rattle.dcv_observer.specs.Left.{seen}
use Rattle.dcv_lustre.specs.Placed.{PlacedArm, PlacedTest, PlacedRight, PlacedDelayed, PlacedChosen, PlacedTested, PlacedEquation, PlacedLocal, PlacedNode}
use Rattle.dcv_lustre_read.specs.declared.placed.PlacedArm.{PlacedArm as CodeArm}
use Rattle.dcv_lustre_read.specs.declared.placed.PlacedTest.{PlacedTest as CodeTest}
use Rattle.dcv_lustre_read.specs.declared.placed.PlacedRight.{PlacedRight as CodeRight}
use Rattle.dcv_lustre_read.specs.declared.placed.PlacedRight.TheVariants.{Delayed as CodeDelayed, Chosen as CodeChosen, Tested as CodeTested}
use Rattle.dcv_lustre_read.specs.declared.placed.PlacedEquation.{PlacedEquation as CodeEquation}
use Rattle.dcv_lustre_read.specs.declared.placed.PlacedLocal.{PlacedLocal as CodeLocal}
use Rattle.dcv_lustre_read.specs.declared.placed.PlacedNode.{PlacedNode as CodeNode}

abbrev pub seen_arm : CodeArm → PlacedArm
seen_arm arm = record { name = seen arm.name; number = option_map seen arm.number; item = seen arm.item }

abbrev pub seen_test : CodeTest → PlacedTest
seen_test test = record { name = seen test.name; number = seen test.number }

abbrev pub seen_right : CodeRight → PlacedRight
seen_right (CodeDelayed first source) = PlacedDelayed (seen first) (seen source)
seen_right (CodeChosen arms otherwise) = PlacedChosen (map seen_arm arms.items) (seen otherwise)
seen_right (CodeTested tests) = PlacedTested (map seen_test tests.items)

abbrev pub seen_equation : CodeEquation → PlacedEquation
seen_equation equation = record { left = seen equation.left; right = seen_right equation.right }

abbrev pub seen_local : CodeLocal → PlacedLocal
seen_local local = record { name = seen local.name; kind = seen local.kind }

abbrev pub seen_node : CodeNode → PlacedNode
seen_node placed =
    record {
      name = seen placed.name;
      inputs = map seen placed.inputs.items;
      output = seen placed.output;
      locals = map seen_local placed.locals.items;
      equations = map seen_equation placed.equations.items;
      tel = seen placed.tel;
    }
