-- The text of a node is laid out: each piece ends where it does.
use Rattle.std.proofs.Common.{◌≡◌, ℕ, true, false, List, [], ◌∷◌, refl, codes}
use Rattle.std.specs.List.{AllByRecursion}
use Rattle.std.proofs.lemmas.Bool.{and_parts}
use Rattle.dcv_lexer.specs.Lexicon.{is_orderly}
use Rattle.dcv_observer.specs.Classes.{is_short_word}
use Rattle.dcv_observer.specs.Pieces.{Text, IsPieceBefore, IsLaidOut}
use Rattle.dcv_observer.specs.Layouts.{Layout, ◌<>◌, Each}
use Rattle.dcv_observer.proofs.LaidOut.{append_laid}
use Rattle.dcv_observer.proofs.Words.{stops, word_before, number_before}
use Rattle.dcv_observer.proofs.PieceLists.{each_laid}
use Rattle.dcv_lustre.specs.Classes.{lexicon}
use Rattle.dcv_lustre.specs.Tree.{Value, Truth, Number, Kind, OfTruth, OfNumber, Item, Constant, Named, Condition, Holds, Equals, Arm, Test, Right}
use Rattle.dcv_lustre.specs.Tree.{Delayed, Chosen, Tested, Equation, Local, Node}
use Rattle.dcv_lustre.specs.Form.{IsName, IsValue, IsItem, IsCondition, IsArm, IsTest, IsRight, IsEquation, IsSpellable}
use Rattle.dcv_lustre.specs.Layout.{pieces_in, value_text, item_text, kind_text, condition_layout, arm_layout, or_layout, test_layout, right_layout, equation_line}
use Rattle.dcv_lustre.specs.Layout.{local_line, local_lines, between_inputs, input_layout, inputs_layout, output_layout, equation_lines, layout_of}

pub orderly : is_orderly lexicon ≡ true
unfolding lexicon is_orderly
orderly = refl

abbrev Laid : Layout → ℕ → Type 0
Laid layout next = IsLaidOut lexicon (pieces_in layout) next

abbrev Before : List ℕ → ℕ → Type 0
Before bytes next = IsPieceBefore lexicon (Text bytes) next

-- ---- words and numbers

name_before : (name : List ℕ) (next : ℕ) → IsName name → stops next ≡ true → Before name next
name_before name next is stop = word_before lexicon name next (and_parts _ _ (and_parts (is_short_word name) _ is).0).0 stop

value_before : (value : Value) (next : ℕ) → IsValue value → stops next ≡ true → Before (value_text value) next
value_before (Truth true) next is stop = word_before lexicon (codes "true") next refl stop
value_before (Truth false) next is stop = word_before lexicon (codes "false") next refl stop
value_before (Number number) next is stop = number_before lexicon number next is stop

item_before : (item : Item) (next : ℕ) → IsItem item → stops next ≡ true → Before (item_text item) next
item_before (Constant value) next is stop = value_before value next is stop
item_before (Named name) next is stop = name_before name next is stop

-- ---- right sides

condition_laid : (condition : Condition) (next : ℕ) → IsCondition condition → stops next ≡ true → Laid (condition_layout condition) next
unfolding lexicon
condition_laid (Holds name) next is stop = (name_before name next is stop, tt)
condition_laid (Equals name number) next is stop =
    (name_before name 32 is.0 refl, (refl, ((refl, refl), (refl, (number_before lexicon number next is.1 stop, tt)))))

arm_laid : (arm : Arm) (next : ℕ) → IsArm arm → Laid (arm_layout arm) next
unfolding lexicon
arm_laid arm next is =
    let behind = append_laid lexicon orderly (pieces_in (condition_layout arm.condition)) _ next (condition_laid arm.condition 32 is.condition refl)
    (refl, ((refl, refl), (refl, (item_before arm.item 32 is.item refl, (refl, ((refl, refl), (refl, tt))))))) in
    ((refl, refl), (refl, behind))

test_laid : (test : Test) (next : ℕ) → IsTest test → Laid (test_layout test) next
unfolding lexicon
test_laid test next is =
    ((refl, refl), (name_before test.name 32 is.name refl, (refl, ((refl, refl), (refl, (number_before lexicon test.number 41 is.number refl, ((refl, refl), tt)))))))

tests_laid : (tests : List Test) (test : Test) (next : ℕ) → IsTest test → AllByRecursion IsTest tests → Laid (right_layout (Tested (test ∷ tests))) next
unfolding lexicon
tests_laid [] test next is are = test_laid test next is
tests_laid (other ∷ tests) test next is are =
    append_laid lexicon orderly (pieces_in (test_layout test)) (pieces_in (Each (λ (t : Test). or_layout <> test_layout t) (other ∷ tests))) next (test_laid test 32 is) (refl, ((refl, refl), (refl, tests_laid tests other next are.0 are.1)))

right_laid : (right : Right) (next : ℕ) → IsRight right → stops next ≡ true → Laid (right_layout right) next
unfolding lexicon
right_laid (Delayed first source) next is stop =
    (value_before first 32 is.0 refl, (refl, ((refl, refl), (refl, ((refl, refl), (refl, (name_before source next is.1 stop, tt)))))))
right_laid (Chosen arms otherwise) next is stop =
    each_laid lexicon orderly (λ arm. pieces_in (arm_layout arm)) IsArm arm_laid arms _ next is.0 (item_before otherwise next is.1 stop, tt)
right_laid (Tested []) next is stop = tt
right_laid (Tested (test ∷ tests)) next is stop = tests_laid tests test next is.1.0 is.1.1

-- ---- lines

equation_laid : (equation : Equation) (next : ℕ) → IsEquation equation → Laid (equation_line equation) next
unfolding lexicon
equation_laid equation next is =
    let right = append_laid lexicon orderly (pieces_in (right_layout equation.right)) _ next (right_laid equation.right 59 is.right refl) ((refl, refl), (refl, tt)) in
    (refl, (refl, (name_before equation.left 32 is.left refl, (refl, ((refl, refl), (refl, right))))))

kind_before : (kind : Kind) → Before (kind_text kind) 59
unfolding lexicon
kind_before OfTruth = (refl, refl)
kind_before OfNumber = (refl, refl)

local_laid : (local : Local) (next : ℕ) → IsName local.name → Laid (local_line local) next
unfolding lexicon
local_laid local next is = (refl, (refl, (name_before local.name 58 is refl, ((refl, refl), (refl, (kind_before local.kind, ((refl, refl), (refl, tt))))))))

input_laid : (name : List ℕ) (next : ℕ) → IsName name → stops next ≡ true → Laid (input_layout name) next
unfolding lexicon
input_laid name next is stop = (name_before name 58 is refl, ((refl, refl), (refl, (word_before lexicon (codes "bool") next refl stop, tt))))

more_inputs_laid : (names : List (List ℕ)) (name : List ℕ) (next : ℕ) → IsName name → AllByRecursion IsName names → stops next ≡ true
    → Laid (inputs_layout (name ∷ names)) next
unfolding lexicon
more_inputs_laid [] name next is are stop = input_laid name next is stop
more_inputs_laid (other ∷ names) name next is are stop =
    append_laid lexicon orderly (pieces_in (input_layout name)) (pieces_in (Each (λ (n : List ℕ). between_inputs <> input_layout n) (other ∷ names))) next (input_laid name 59 is refl) ((refl, refl), (refl, more_inputs_laid names other next are.0 are.1 stop))

inputs_laid : (names : List (List ℕ)) (next : ℕ) → AllByRecursion IsName names → stops next ≡ true → Laid (inputs_layout names) next
inputs_laid [] next are stop = tt
inputs_laid (name ∷ names) next are stop = more_inputs_laid names name next are.0 are.1 stop

locals_laid : (locals : List Local) (more : Layout) (next : ℕ) → AllByRecursion (λ (local : Local). IsName local.name) locals → Laid more next
    → Laid (local_lines locals <> more) next
unfolding lexicon
locals_laid [] more next is rest = rest
locals_laid (local ∷ locals) more next is rest =
    ((refl, refl), (refl, each_laid lexicon orderly (λ local. pieces_in (local_line local)) (λ (local : Local). IsName local.name) local_laid (local ∷ locals) _ next is rest))

equations_laid : (equations : List Equation) (next : ℕ) → AllByRecursion IsEquation equations → Laid (equation_lines equations) next
unfolding lexicon
equations_laid equations next are =
    ((refl, refl), (refl, each_laid lexicon orderly (λ equation. pieces_in (equation_line equation)) IsEquation equation_laid equations _ next are ((refl, refl), (refl, tt))))

output_laid : (more : Layout) (next : ℕ) → Laid more next → Laid (output_layout <> more) next
unfolding lexicon
output_laid more next rest =
    ((refl, refl), (refl, ((refl, refl), (refl, ((refl, refl), ((refl, refl), ((refl, refl), (refl, ((refl, refl), ((refl, refl), ((refl, refl), (refl, rest))))))))))))

pub node_laid : (node : Node) (next : ℕ) → IsSpellable node → Laid (layout_of node) next
unfolding lexicon
node_laid node next is =
    let inputs = append_laid lexicon orderly (pieces_in (inputs_layout node.inputs)) _ next (inputs_laid node.inputs 41 is.inputs refl)
    (output_laid (local_lines node.locals <> equation_lines node.equations) next
    (locals_laid node.locals (equation_lines node.equations) next is.locals (equations_laid node.equations next is.equations))) in
    ((refl, refl), (refl, (name_before node.name 40 is.name refl, ((refl, refl), inputs))))
