-- The words of a unit that stands in a text, and its function that makes a step, of code that has its names by places.
--     first_fault_of placed             where its first word begins that breaks a rule of names, if there is one
--     IsStepOf unit step                the function that makes a step is this one
use Rattle.std.specs.Prelude.{◌≡◌, ℕ, Bool, List, ◌∷◌, ◌++◌, Option, map}
use Rattle.std.specs.List.{flat_map}
use Rattle.dcv_lexer.specs.Cuts.{Token}
use Rattle.dcv_observer.specs.Subsets.{first_broken}
use Rattle.dcv_c.specs.declared.unit.Step.{Step}
use Rattle.dcv_c.specs.Tree.{CUnit}
use Rattle.dcv_c.specs.Seen.{seen_statement, seen_returned, names_of}
use Rattle.dcv_c.specs.Placed.{PlacedUnit, unit_of}
use Rattle.dcv_c.specs.Rules.{words_of, judged, words_of_statement, words_of_returned}
use Rattle.dcv_c.specs.Rules.{keeps_new, keeps_apart, keeps_parameters, keeps_statements, before_step, before_parameters, before_locals}

abbrev pub first_fault_of : PlacedUnit → Option ℕ
first_fault_of placed = first_broken (words_of placed) (judged (unit_of placed))

-- ---- after the function that sets the statics

abbrev pub words_of_step : PlacedUnit → List Token
words_of_step placed =
    placed.step ∷ placed.parameters ++ (placed.locals ++ (flat_map words_of_statement placed.statements ++ words_of_returned placed.returned))

abbrev pub keeps_step : CUnit → List Bool
keeps_step unit =
    keeps_new (before_step unit) unit.step ∷ keeps_parameters (before_parameters unit) 0 unit.parameters
    ++ (keeps_apart (before_locals unit) unit.locals ++ keeps_statements unit (unit.statics ++ unit.parameters) unit.statements)

pub record IsStepOf (unit : CUnit) (step : Step) : Type 0 where
  pub name : step.name ≡ unit.step
  pub parameters : step.parameters.items ≡ unit.parameters
  pub locals : step.locals.items ≡ unit.locals
  pub statements : map (seen_statement (names_of unit)) step.statements.items ≡ unit.statements
  pub returned : seen_returned (names_of unit) step.returned ≡ unit.returned
