-- The rules of names, which each name of a unit keeps or breaks.
--     judged unit                whether each name keeps the rules, and the brace after reset's assignments, in the order of the text; numbers,
--                                where a name may stand, keep them
--     words_of placed            the tokens of these
--     IsNamesFault placed at     the first that breaks a rule begins there
--     IsWellNamed unit           none does
use Rattle.std.specs.Prelude.{◌≡◌, ℕ, ◌+◌, Bool, true, not, ◌&&◌, nat_lt, IsTrue, List, [], ◌∷◌, ◌++◌, Some, map}
use Rattle.std.specs.List.{list_all, flat_map}
use Rattle.dcv_lexer.specs.Cuts.{Token}
use Rattle.dcv_language.specs.Limits.{most_variables}
use Rattle.dcv_observer.specs.Naming.{is_among}
use Rattle.dcv_observer.specs.Subsets.{first_broken}
use Rattle.dcv_c.specs.Tree.{Item, Constant, Named, Condition, Holds, Equals, Test, Right, Plain, Chosen, Statement, Assign, When}
use Rattle.dcv_c.specs.Tree.{Returned, Fixed, Read, Tested, Assignment, CUnit}
use Rattle.dcv_c.specs.Placed.{PlacedUnit, PlacedAssignment, PlacedStatement, PlacedAssign, PlacedWhen, PlacedRight, PlacedPlain, PlacedChosen}
use Rattle.dcv_c.specs.Placed.{PlacedReturned, PlacedFixed, PlacedRead, PlacedTested, PlacedTest, unit_of}

abbrev pub most_parameters : ℕ
most_parameters = most_variables

-- ---- names that are declared

-- none of those before it
abbrev pub keeps_new : List (List ℕ) → List ℕ → Bool
keeps_new earlier name = not (is_among earlier name)

-- one after another
abbrev pub keeps_apart : List (List ℕ) → List (List ℕ) → List Bool
keeps_apart earlier [] = []
keeps_apart earlier (name ∷ names) = keeps_new earlier name ∷ keeps_apart (earlier ++ name ∷ []) names

-- and there are not too many
abbrev pub keeps_parameters : List (List ℕ) → ℕ → List (List ℕ) → List Bool
keeps_parameters earlier place [] = []
keeps_parameters earlier place (name ∷ names) =
    (keeps_new earlier name && nat_lt place most_parameters) ∷ keeps_parameters (earlier ++ name ∷ []) (place + 1) names

-- both functions, by what is declared before them
abbrev pub before_step : CUnit → List (List ℕ)
before_step unit = unit.statics ++ unit.reset ∷ []

abbrev pub before_parameters : CUnit → List (List ℕ)
before_parameters unit = before_step unit ++ unit.step ∷ []

abbrev pub before_locals : CUnit → List (List ℕ)
before_locals unit = before_parameters unit ++ unit.parameters

-- ---- reset

-- a static that is not assigned yet
abbrev pub keeps_assignments : List (List ℕ) → List (List ℕ) → List Assignment → List Bool
keeps_assignments statics earlier [] = []
keeps_assignments statics earlier (assignment ∷ assignments) =
    (is_among statics assignment.name && keeps_new earlier assignment.name) ∷ keeps_assignments statics (assignment.name ∷ earlier) assignments

abbrev pub has_all_assignments : CUnit → Bool
has_all_assignments unit = list_all (is_among (map (λ (assignment : Assignment). assignment.name) unit.assignments)) unit.statics

-- ---- statements

-- what is read is known
abbrev pub keeps_item : List (List ℕ) → Item → Bool
keeps_item known (Constant number) = true
keeps_item known (Named name) = is_among known name

abbrev pub keeps_condition : List (List ℕ) → Condition → Bool
keeps_condition known (Holds name) = is_among known name
keeps_condition known (Equals name number) = is_among known name

abbrev pub keeps_right : List (List ℕ) → Right → List Bool
keeps_right known (Plain item) = keeps_item known item ∷ []
keeps_right known (Chosen condition item otherwise) = keeps_condition known condition ∷ keeps_item known item ∷ keeps_item known otherwise ∷ []

-- a static or a local
abbrev pub keeps_left : CUnit → List ℕ → Bool
keeps_left unit left = is_among (unit.statics ++ unit.locals) left

abbrev pub keeps_statement : CUnit → List (List ℕ) → Statement → List Bool
keeps_statement unit known (Assign left right) = keeps_left unit left ∷ keeps_right known right
keeps_statement unit known (When condition left item) = keeps_condition known condition ∷ keeps_left unit left ∷ keeps_item known item ∷ []

-- a statement without `if` makes its left side known
abbrev pub known_after : List (List ℕ) → Statement → List (List ℕ)
known_after known (Assign left right) = left ∷ known
known_after known (When condition left item) = known

abbrev pub keeps_returned : List (List ℕ) → Returned → List Bool
keeps_returned known (Fixed number) = true ∷ []
keeps_returned known (Read name) = is_among known name ∷ []
keeps_returned known (Tested tests) = map (λ (test : Test). is_among known test.name) tests

abbrev pub keeps_statements : CUnit → List (List ℕ) → List Statement → List Bool
keeps_statements unit known [] = keeps_returned known unit.returned
keeps_statements unit known (statement ∷ statements) =
    keeps_statement unit known statement ++ keeps_statements unit (known_after known statement) statements

-- ---- the unit

unfoldable pub judged : CUnit → List Bool
judged unit =
    keeps_apart [] unit.statics
    ++ (keeps_new unit.statics unit.reset ∷ keeps_assignments unit.statics [] unit.assignments
    -- the brace
    ++ (has_all_assignments unit ∷ keeps_new (before_step unit) unit.step ∷ keeps_parameters (before_parameters unit) 0 unit.parameters
    ++ (keeps_apart (before_locals unit) unit.locals
    -- a static and a parameter are known from the start
    ++ keeps_statements unit (unit.statics ++ unit.parameters) unit.statements)))

abbrev pub IsWellNamed : CUnit → Type 0
IsWellNamed unit = IsTrue (list_all (λ keeps. keeps) (judged unit))

-- ---- where they stand

abbrev pub words_of_right : PlacedRight → List Token
words_of_right (PlacedPlain item) = item ∷ []
words_of_right (PlacedChosen name choice) = name ∷ choice.item ∷ choice.otherwise ∷ []

abbrev pub words_of_statement : PlacedStatement → List Token
words_of_statement (PlacedAssign left right) = left ∷ words_of_right right
words_of_statement (PlacedWhen name number left item) = name ∷ left ∷ item ∷ []

abbrev pub words_of_returned : PlacedReturned → List Token
words_of_returned (PlacedFixed number) = number ∷ []
words_of_returned (PlacedRead name) = name ∷ []
words_of_returned (PlacedTested tests) = map (λ (test : PlacedTest). test.name) tests

unfoldable pub words_of : PlacedUnit → List Token
words_of placed =
    placed.statics
    ++ (placed.reset ∷ map (λ (assignment : PlacedAssignment). assignment.name) placed.assignments
    ++ (placed.reset_end ∷ placed.step ∷ placed.parameters
    ++ (placed.locals
    ++ (flat_map words_of_statement placed.statements ++ words_of_returned placed.returned))))

abbrev pub IsNamesFault : PlacedUnit → ℕ → Type 0
IsNamesFault placed at = first_broken (words_of placed) (judged (unit_of placed)) ≡ Some at
