-- The text of a unit. Of a unit with two parameters and a local it is, where `RIGHT` stands for a right side,
--     static int st;
--
--     void RESET(void)
--     {
--       st = 0;
--     }
--
--     int STEP(int v_p, int v_q)
--     {
--       int nx;
--
--       nx = RIGHT;
--       if (st == 0) nx = 1;
--       return nx == 0 || nx == 1;
--     }
-- and where there are no parameters `void` stands for them, and where there are no locals the empty line after them is not there.
--     head kind name parameters      the lines of a function before its body
--     statement_line statement       the line of a statement
--     layout_of unit                 the layout
--     text_of unit                   its bytes
use Rattle.std.specs.Prelude.{ℕ, List, [], ◌∷◌, codes}
use Rattle.std.specs.Fmt.{decimal}
pub use Rattle.dcv_observer.specs.Layouts.{text_in, pieces_in}
use Rattle.dcv_observer.specs.Layouts.{Layout, Empty, Space, Newline, Word, ◌<>◌, ◌<+>◌, Each, Joined}
use Rattle.dcv_c.specs.Tree.{Item, Constant, Named, Condition, Holds, Equals, Test, Right, Plain, Chosen, Statement, Assign, When}
use Rattle.dcv_c.specs.Tree.{Returned, Fixed, Read, Tested, Assignment, CUnit}

abbrev indent : Layout
indent = Space <> Space

abbrev pub end : Layout
end = Word (codes ";") <> Newline

-- ---- statements

abbrev pub item_text : Item → List ℕ
item_text (Constant number) = decimal number
item_text (Named name) = name

abbrev pub condition_layout : Condition → Layout
condition_layout (Holds name) = Word name
condition_layout (Equals name number) = Word name <+> Word (codes "==") <+> Word (decimal number)

abbrev pub right_layout : Right → Layout
right_layout (Plain item) = Word (item_text item)
right_layout (Chosen condition item otherwise) =
    condition_layout condition <+> Word (codes "?") <+> Word (item_text item) <+> Word (codes ":") <+> Word (item_text otherwise)

-- a line that sets a name
abbrev pub set_line : List ℕ → Layout → Layout
set_line left right = indent <> Word left <+> Word (codes "=") <+> right <> end

abbrev pub statement_line : Statement → Layout
statement_line (Assign left right) = set_line left (right_layout right)
statement_line (When condition left item) =
    indent <> Word (codes "if") <+> Word (codes "(") <> condition_layout condition <> Word (codes ")") <+> Word left <+> Word (codes "=") <+> Word (item_text item) <> end

abbrev pub test_layout : Test → Layout
test_layout test = condition_layout (Equals test.name test.number)

abbrev pub between_tests : Layout
between_tests = Space <> Word (codes "||") <> Space

abbrev pub returned_layout : Returned → Layout
returned_layout (Fixed number) = Word (decimal number)
returned_layout (Read name) = Word name
returned_layout (Tested tests) = Joined between_tests test_layout tests

-- ---- declarations

abbrev pub declaration : List ℕ → Layout
declaration name = Word (codes "int") <+> Word name

abbrev pub static_line : List ℕ → Layout
static_line name = Word (codes "static") <+> declaration name <> end

abbrev pub local_line : List ℕ → Layout
local_line name = indent <> declaration name <> end

abbrev pub local_lines : List (List ℕ) → Layout
local_lines [] = Empty
local_lines (name ∷ names) = Each local_line (name ∷ names) <> Newline

abbrev pub between_parameters : Layout
between_parameters = Word (codes ",") <> Space

abbrev pub parameters_layout : List (List ℕ) → Layout
parameters_layout [] = Word (codes "void")
parameters_layout (name ∷ names) = Joined between_parameters declaration (name ∷ names)

-- ---- functions

-- an empty line, and the next one up to the parameters
abbrev pub beginning : List ℕ → List ℕ → Layout
beginning kind name = Newline <> Word kind <+> Word name <> Word (codes "(")

abbrev pub opening : Layout
opening = Word (codes ")") <> Newline <> Word (codes "{") <> Newline

abbrev pub head : List ℕ → List ℕ → Layout → Layout
head kind name parameters = beginning kind name <> parameters <> opening

abbrev pub closing : Layout
closing = Word (codes "}") <> Newline

abbrev pub assignment_line : Assignment → Layout
assignment_line assignment = set_line assignment.name (Word (decimal assignment.number))

abbrev pub reset_lines : List ℕ → List Assignment → Layout
reset_lines name assignments = head (codes "void") name (parameters_layout []) <> Each assignment_line assignments <> closing

abbrev pub end_lines : Layout → Layout
end_lines returned = indent <> Word (codes "return") <+> returned <> end <> closing

abbrev pub step_lines : List ℕ → List (List ℕ) → List (List ℕ) → List Statement → Returned → Layout
step_lines name parameters locals statements returned =
    head (codes "int") name (parameters_layout parameters) <> local_lines locals <> Each statement_line statements <> end_lines (returned_layout returned)

-- ---- the unit

unfoldable pub layout_of : CUnit → Layout
layout_of unit =
    Each static_line unit.statics <> reset_lines unit.reset unit.assignments <> step_lines unit.step unit.parameters unit.locals unit.statements unit.returned

unfoldable pub text_of : CUnit → List ℕ
text_of unit = text_in (layout_of unit)
