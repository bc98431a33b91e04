-- The words of lists, and whether each keeps its rule of names.
use Rattle.std.specs.Prelude.{ℕ, Bool, List, ◌∷◌, [], map}
use Rattle.std.specs.List.{flat_map}
use Rattle.dcv_lexer.specs.Cuts.{Token}
use Rattle.dcv_lustre.specs.Tree.{OfNumber, Test, Local, Node}
use Rattle.dcv_lustre.specs.Placed.{PlacedArm, PlacedTest, PlacedEquation, PlacedLocal, local_of}
use Rattle.dcv_lustre.specs.Rules.{keeps_name, words_of_right}

abbrev pub words_of_arms : List PlacedArm → List Token
words_of_arms arms = flat_map (λ (arm : PlacedArm). arm.name ∷ arm.item ∷ []) arms

abbrev pub words_of_tests : List PlacedTest → List Token
words_of_tests tests = map (λ (test : PlacedTest). test.name) tests

abbrev pub keeps_tests : Node → List (List ℕ) → List Test → List Bool
keeps_tests node known tests = map (λ (test : Test). keeps_name node known OfNumber test.name) tests

abbrev pub words_of_equations : List PlacedEquation → List Token
words_of_equations equations = flat_map (λ (equation : PlacedEquation). equation.left ∷ words_of_right equation.right) equations

abbrev pub words_of_locals : List PlacedLocal → List Token
words_of_locals locals = map (λ (local : PlacedLocal). local.name) locals

abbrev pub names_of_locals : List PlacedLocal → List (List ℕ)
names_of_locals locals = map (λ (local : Local). local.name) (map local_of locals)
