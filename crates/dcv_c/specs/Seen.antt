-- How clauses see a unit of the code, in which a name stands by its place: the statics first, then the parameters, then the locals.
--     names_of unit                      the names of a unit, in this order
--     seen_unit statics reset step       what these parts of the code are as plain data
--     IsUnit statics reset step          what is true of each unit of the code
use Rattle.std.specs.Prelude.{◌++◌, map}
pub use Rattle.dcv_observer.specs.Conditions.{Names, name_at, seen_condition, seen_test}
use Rattle.dcv_c.specs.declared.unit.Item.{Item as CodeItem}
use Rattle.dcv_c.specs.declared.unit.Item.TheVariants.{Constant as CodeConstant, Named as CodeNamed}
use Rattle.dcv_c.specs.declared.unit.Right.{Right as CodeRight}
use Rattle.dcv_c.specs.declared.unit.Right.TheVariants.{Plain as CodePlain, Chosen as CodeChosen}
use Rattle.dcv_c.specs.declared.unit.Statement.{Statement as CodeStatement}
use Rattle.dcv_c.specs.declared.unit.Statement.TheVariants.{Assign as CodeAssign, When as CodeWhen}
use Rattle.dcv_c.specs.declared.unit.Returned.{Returned as CodeReturned}
use Rattle.dcv_c.specs.declared.unit.Returned.TheVariants.{Fixed as CodeFixed, Read as CodeRead, Tested as CodeTested}
use Rattle.dcv_c.specs.declared.unit.Assignment.{Assignment as CodeAssignment}
use Rattle.dcv_c.specs.declared.unit.Reset.{Reset}
use Rattle.dcv_c.specs.declared.unit.Step.{Step}
use Rattle.dcv_c.specs.Tree.{Item, Constant, Named, Right, Plain, Chosen, Statement, Assign, When, Returned, Fixed, Read, Tested, Assignment, CUnit}
use Rattle.dcv_c.specs.Rules.{IsWellNamed}
use Rattle.dcv_c.specs.Form.{IsSpellable}

abbrev pub seen_item : Names → CodeItem → Item
seen_item names (CodeConstant number) = Constant number
seen_item names (CodeNamed place) = Named (name_at names place)

abbrev pub seen_right : Names → CodeRight → Right
seen_right names (CodePlain item) = Plain (seen_item names item)
seen_right names (CodeChosen condition item otherwise) = Chosen (seen_condition names condition) (seen_item names item) (seen_item names otherwise)

abbrev pub seen_statement : Names → CodeStatement → Statement
seen_statement names (CodeAssign left right) = Assign (name_at names left) (seen_right names right)
seen_statement names (CodeWhen condition left item) = When (seen_condition names condition) (name_at names left) (seen_item names item)

abbrev pub seen_returned : Names → CodeReturned → Returned
seen_returned names (CodeFixed number) = Fixed number
seen_returned names (CodeRead place) = Read (name_at names place)
seen_returned names (CodeTested tests) = Tested (map (seen_test names) tests.items)

abbrev pub seen_assignment : Names → CodeAssignment → Assignment
seen_assignment names assignment = record { name = name_at names assignment.name; number = assignment.number }

-- ---- units

abbrev pub all_names : Names → Names → Names → Names
all_names statics parameters locals = statics ++ (parameters ++ locals)

abbrev pub names_of : CUnit → Names
names_of unit = all_names unit.statics unit.parameters unit.locals

abbrev pub seen_unit : Names → Reset → Step → CUnit
seen_unit statics reset step =
    let names = all_names statics step.parameters.items step.locals.items in
    record {
      statics = statics;
      reset = reset.name;
      assignments = map (seen_assignment names) reset.assignments.items;
      step = step.name;
      parameters = step.parameters.items;
      locals = step.locals.items;
      statements = map (seen_statement names) step.statements.items;
      returned = seen_returned names step.returned;
    }

pub record IsUnit (statics : Names) (reset : Reset) (step : Step) : Type 0 where
  pub well_named : IsWellNamed (seen_unit statics reset step)
  -- so each place is that of a name: a name is not empty
  pub spellable : IsSpellable (seen_unit statics reset step)
