-- The text of a node. Of a node with two inputs and a local it is, where `RIGHT` stands for the right sides,
--     node NAME(v_p: bool; v_q: bool) returns (ok: bool);
--     var
--       st: int;
--     let
--       st = RIGHT;
--       ok = RIGHT;
--     tel
-- and where there are no locals the word `var` is not there.
--     equation_line equation         a line between `let` and `tel`
--     layout_of node                 the layout
--     text_of node                   its bytes
use Rattle.std.specs.Prelude.{ℕ, if◌then◌else◌, List, [], ◌∷◌, codes}
use Rattle.std.specs.Fmt.{decimal}
pub use Rattle.dcv_observer.specs.Layouts.{text_in, pieces_in}
use Rattle.dcv_observer.specs.Layouts.{Layout, Empty, Space, Newline, Word, ◌<>◌, ◌<+>◌, Each, Joined}
use Rattle.dcv_lustre.specs.Tree.{Value, Truth, Number, Kind, OfTruth, OfNumber, Item, Constant, Named, Condition, Holds, Equals, Arm, Test, Right}
use Rattle.dcv_lustre.specs.Tree.{Delayed, Chosen, Tested, Equation, Local, Node}
use Rattle.dcv_lustre.specs.Meaning.{ok}

abbrev indent : Layout
indent = Space <> Space

abbrev pub end : Layout
end = Word (codes ";") <> Newline

-- ---- right sides

abbrev pub value_text : Value → List ℕ
value_text (Truth truth) = if truth then codes "true" else codes "false"
value_text (Number number) = decimal number

abbrev pub item_text : Item → List ℕ
item_text (Constant value) = value_text value
item_text (Named name) = name

abbrev pub condition_layout : Condition → Layout
condition_layout (Holds name) = Word name
condition_layout (Equals name number) = Word name <+> Word (codes "=") <+> Word (decimal number)

-- and a space after it
abbrev pub arm_layout : Arm → Layout
arm_layout arm = Word (codes "if") <+> condition_layout arm.condition <+> Word (codes "then") <+> Word (item_text arm.item) <+> Word (codes "else") <> Space

abbrev pub test_layout : Test → Layout
test_layout test = Word (codes "(") <> condition_layout (Equals test.name test.number) <> Word (codes ")")

abbrev pub or_layout : Layout
or_layout = Space <> Word (codes "or") <> Space

abbrev pub right_layout : Right → Layout
right_layout (Delayed first source) = Word (value_text first) <+> Word (codes "->") <+> Word (codes "pre") <+> Word source
right_layout (Chosen arms otherwise) = Each arm_layout arms <> Word (item_text otherwise)
right_layout (Tested tests) = Joined or_layout test_layout tests

-- ---- lines

abbrev pub equation_line : Equation → Layout
equation_line equation = indent <> Word equation.left <+> Word (codes "=") <+> right_layout equation.right <> end

abbrev pub kind_text : Kind → List ℕ
kind_text OfTruth = codes "bool"
kind_text OfNumber = codes "int"

abbrev pub local_line : Local → Layout
local_line local = indent <> Word local.name <> Word (codes ":") <+> Word (kind_text local.kind) <> end

abbrev pub local_lines : List Local → Layout
local_lines [] = Empty
local_lines (local ∷ locals) = Word (codes "var") <> Newline <> Each local_line (local ∷ locals)

abbrev pub input_layout : List ℕ → Layout
input_layout name = Word name <> Word (codes ":") <+> Word (codes "bool")

abbrev pub between_inputs : Layout
between_inputs = Word (codes ";") <> Space

abbrev pub inputs_layout : List (List ℕ) → Layout
inputs_layout names = Joined between_inputs input_layout names

-- the first line, up to its inputs and after them
abbrev pub opening_layout : List ℕ → Layout
opening_layout name = Word (codes "node") <+> Word name <> Word (codes "(")

abbrev pub output_layout : Layout
output_layout = Word (codes ")") <+> Word (codes "returns") <+> Word (codes "(") <> input_layout ok <> Word (codes ")") <> end

abbrev pub equation_lines : List Equation → Layout
equation_lines equations = Word (codes "let") <> Newline <> Each equation_line equations <> Word (codes "tel") <> Newline

-- ---- the node

abbrev pub layout_of : Node → Layout
layout_of node =
    opening_layout node.name <> inputs_layout node.inputs <> output_layout <> local_lines node.locals <> equation_lines node.equations

unfoldable pub text_of : Node → List ℕ
text_of node = text_in (layout_of node)
