-- The words of lists, and whether each keeps its rule of names.
use Rattle.std.specs.Prelude.{Bool, List, map}
use Rattle.std.specs.List.{flat_map}
use Rattle.dcv_lexer.specs.Cuts.{Token}
use Rattle.dcv_observer.specs.Conditions.{Names}
use Rattle.dcv_observer.specs.Naming.{is_among}
use Rattle.dcv_c.specs.Tree.{Assignment, Test}
use Rattle.dcv_c.specs.Placed.{PlacedAssignment, PlacedStatement, PlacedTest}
use Rattle.dcv_c.specs.Rules.{words_of_statement}

abbrev pub words_of_assignments : List PlacedAssignment → List Token
words_of_assignments assignments = map (λ (assignment : PlacedAssignment). assignment.name) assignments

abbrev pub names_of_assignments : List Assignment → Names
names_of_assignments assignments = map (λ (assignment : Assignment). assignment.name) assignments

abbrev pub words_of_statements : List PlacedStatement → List Token
words_of_statements statements = flat_map words_of_statement statements

abbrev pub words_of_tests : List PlacedTest → List Token
words_of_tests tests = map (λ (test : PlacedTest). test.name) tests

abbrev pub keeps_tests : Names → List Test → List Bool
keeps_tests known tests = map (λ (test : Test). is_among known test.name) tests
