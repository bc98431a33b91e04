-- The rules of names, which each name and constant of a node keeps or breaks.
--     judged node                whether each name and constant keeps the rules, in the order of the text, and the last word, `tel`
--     words_of placed            the tokens of these
--     IsNamesFault placed at     the first that breaks a rule begins there
--     IsWellNamed node           none does
use Rattle.std.specs.Prelude.{◌≡◌, ℕ, Bool, true, false, not, ◌&&◌, ◌||◌, nat_lt, nat_le, IsTrue, if◌then◌else◌, List, [], ◌∷◌, ◌++◌}
use Rattle.std.specs.Prelude.{Some, length, map, take}
use Rattle.std.specs.List.{list_all, flat_map, filter, enumerate_from}
use Rattle.dcv_lexer.specs.Cuts.{Token}
use Rattle.dcv_language.specs.Limits.{most_variables}
use Rattle.dcv_observer.specs.Naming.{is_among}
use Rattle.dcv_observer.specs.Subsets.{first_broken}
use Rattle.dcv_lustre.specs.Tree.{Value, Truth, Number, Kind, OfTruth, OfNumber, Item, Constant, Named, Condition, Holds, Equals, Arm, Test, Right}
use Rattle.dcv_lustre.specs.Tree.{Delayed, Chosen, Tested, Equation, Local, Node}
use Rattle.dcv_lustre.specs.Placed.{PlacedNode, PlacedEquation, PlacedRight, PlacedDelayed, PlacedChosen, PlacedTested, PlacedArm, PlacedTest}
use Rattle.dcv_lustre.specs.Placed.{PlacedLocal, node_of}
use Rattle.dcv_lustre.specs.Meaning.{ok, local_names, names_of}

abbrev pub most_inputs : ℕ
most_inputs = most_variables

-- ---- kinds

abbrev pub is_of_kind : Kind → Value → Bool
is_of_kind OfTruth (Truth truth) = true
is_of_kind OfTruth (Number number) = false
is_of_kind OfNumber (Truth truth) = false
is_of_kind OfNumber (Number number) = true

abbrev pub is_same_kind : Kind → Kind → Bool
is_same_kind OfTruth OfTruth = true
is_same_kind OfTruth OfNumber = false
is_same_kind OfNumber OfTruth = false
is_same_kind OfNumber OfNumber = true

abbrev pub locals_of_kind : Kind → Node → List (List ℕ)
locals_of_kind kind node = map (λ (local : Local). local.name) (filter (λ (local : Local). is_same_kind kind local.kind) node.locals)

-- inputs and the output are truths
abbrev pub names_of_kind : Kind → Node → List (List ℕ)
names_of_kind OfTruth node = node.inputs ++ (ok ∷ locals_of_kind OfTruth node)
names_of_kind OfNumber node = locals_of_kind OfNumber node

abbrev pub kind_of : Node → List ℕ → Kind
kind_of node name = if is_among (names_of_kind OfTruth node) name then OfTruth else OfNumber

-- ---- names that are declared: that of the node, and those of its inputs, output and locals

abbrev pub declared : Node → List (List ℕ)
declared node = node.name ∷ names_of node

-- none of those before it; and there are not too many inputs
abbrev pub keeps_declared : Node → ℕ → List ℕ → Bool
keeps_declared node place name =
    not (is_among (take place (declared node)) name) && (nat_le place most_inputs || nat_lt (length node.inputs) place)

-- ---- equations

-- a name of the kind that is known where it is read
abbrev pub keeps_name : Node → List (List ℕ) → Kind → List ℕ → Bool
keeps_name node known kind name = is_among known name && is_among (names_of_kind kind node) name

abbrev pub keeps_item : Node → List (List ℕ) → Kind → Item → Bool
keeps_item node known kind (Constant value) = is_of_kind kind value
keeps_item node known kind (Named name) = keeps_name node known kind name

abbrev pub keeps_condition : Node → List (List ℕ) → Condition → Bool
keeps_condition node known (Holds name) = keeps_name node known OfTruth name
keeps_condition node known (Equals name number) = keeps_name node known OfNumber name

abbrev pub keeps_arm : Node → List (List ℕ) → Kind → Arm → List Bool
keeps_arm node known kind arm = keeps_condition node known arm.condition ∷ keeps_item node known kind arm.item ∷ []

abbrev pub keeps_right : Node → List (List ℕ) → Kind → Right → List Bool
keeps_right node known kind (Delayed first source) = is_of_kind kind first ∷ is_among (names_of_kind kind node) source ∷ []
keeps_right node known kind (Chosen arms otherwise) = flat_map (keeps_arm node known kind) arms ++ keeps_item node known kind otherwise ∷ []
keeps_right node known kind (Tested tests) = map (λ (test : Test). keeps_name node known OfNumber test.name) tests

-- tests stand for truths alone
abbrev pub keeps_form : Node → List ℕ → Right → Bool
keeps_form node left (Delayed first source) = true
keeps_form node left (Chosen arms otherwise) = true
keeps_form node left (Tested tests) = is_among (names_of_kind OfTruth node) left

-- the output or a local, which no earlier equation has on its left
abbrev pub keeps_left : Node → List (List ℕ) → Equation → Bool
keeps_left node earlier equation =
    is_among (ok ∷ local_names node) equation.left && not (is_among earlier equation.left) && keeps_form node equation.left equation.right

-- read, but for what is after `pre`, are inputs and what earlier equations have on their left
abbrev pub keeps_equation : Node → List (List ℕ) → Equation → List Bool
keeps_equation node earlier equation =
    keeps_left node earlier equation ∷ keeps_right node (node.inputs ++ earlier) (kind_of node equation.left) equation.right

abbrev pub keeps_equations : Node → List (List ℕ) → List Equation → List Bool
keeps_equations node earlier [] = []
keeps_equations node earlier (equation ∷ equations) =
    keeps_equation node earlier equation ++ keeps_equations node (equation.left ∷ earlier) equations

abbrev pub lefts_of : List Equation → List (List ℕ)
lefts_of equations = map (λ (equation : Equation). equation.left) equations

abbrev pub has_all_equations : Node → Bool
has_all_equations node = list_all (is_among (lefts_of node.equations)) (ok ∷ local_names node)

-- ---- the node

unfoldable pub judged : Node → List Bool
judged node =
    map (λ numbered. keeps_declared node numbered.0 numbered.1) (enumerate_from 0 (declared node))
    ++ (keeps_equations node [] node.equations
    -- `tel`
    ++ has_all_equations node ∷ [])

abbrev pub IsWellNamed : Node → Type 0
IsWellNamed node = IsTrue (list_all (λ keeps. keeps) (judged node))

-- ---- where they stand

abbrev pub words_of_right : PlacedRight → List Token
words_of_right (PlacedDelayed first source) = first ∷ source ∷ []
words_of_right (PlacedChosen arms otherwise) = flat_map (λ (arm : PlacedArm). arm.name ∷ arm.item ∷ []) arms ++ otherwise ∷ []
words_of_right (PlacedTested tests) = map (λ (test : PlacedTest). test.name) tests

unfoldable pub words_of : PlacedNode → List Token
words_of placed =
    placed.name ∷ placed.inputs
    ++ (placed.output ∷ map (λ (local : PlacedLocal). local.name) placed.locals
    ++ (flat_map (λ (equation : PlacedEquation). equation.left ∷ words_of_right equation.right) placed.equations
    ++ placed.tel ∷ []))

abbrev pub IsNamesFault : PlacedNode → ℕ → Type 0
IsNamesFault placed at = first_broken (words_of placed) (judged (node_of placed)) ≡ Some at
