-- The text of a unit of tables. With two parameters and a node it is, where each array has a line for each of its numbers,
--     enum { states = 2, nodes = 1, variables = 2 };
--
--     static const unsigned char variable[nodes] = {
--       1,
--     };
--
--     static const unsigned short high[nodes] = {
--       0,
--     };
--
--     static const unsigned short low[nodes] = { .. };
--
--     static const unsigned short row[states] = { .. };
--
--     static const unsigned char accept[states] = { .. };
--
--     static unsigned short st;
--
--     void observer_reset(void)
--     {
--       st = 0;
--     }
--
--     int observer_step(int v_p, int v_q)
--     {
--       int letter[variables];
--       unsigned short at;
--
--       letter[0] = v_p;
--       letter[1] = v_q;
--       at = row[st];
--       while (at >= states) at = letter[variable[at - states]] ? high[at - states] : low[at - states];
--       st = at;
--       return accept[st];
--     }
-- and where there is no node the first three arrays, `letter` and the loop are not there. With more than 65,535 states and nodes together,
-- `short` is `long`. Without parameters there is `void`.
--     layout_of tables     the layout
--     text_of tables       its bytes
use Rattle.std.specs.Prelude.{ℕ, ◌+◌, Bool, true, false, nat_lt, if◌then◌else◌, List, [], ◌∷◌, length, codes}
use Rattle.std.specs.Fmt.{decimal}
use Rattle.std.specs.List.{enumerate_from}
pub use Rattle.dcv_observer.specs.Layouts.{text_in}
use Rattle.dcv_observer.specs.Layouts.{Layout, Empty, Word, ◌<>◌, Each, Joined}
use Rattle.dcv_c_tables.specs.Unit.{TableNode, TableState, Tables}

abbrev pub most_short : ℕ
most_short = 65535

-- the type of a place
abbrev pub type_for : ℕ → List ℕ
type_for places = if nat_lt most_short places then codes "unsigned long" else codes "unsigned short"

abbrev pub type_of : Tables → List ℕ
type_of tables = type_for (length tables.states + length tables.nodes)

-- ---- arrays

abbrev pub number_line : ℕ → Layout
number_line number = Word (codes "  ") <> Word (decimal number) <> Word (codes ",\n")

abbrev pub opening : List ℕ → List ℕ → Layout
opening integer head = Word (codes "static const ") <> Word integer <> Word head

abbrev pub closing : Layout
closing = Word (codes "};\n\n")

abbrev pub array_lines : List ℕ → List ℕ → Layout → Layout
array_lines integer head lines = opening integer head <> lines <> closing

abbrev pub char_type : List ℕ
char_type = codes "unsigned char"

abbrev pub variable_head : List ℕ
variable_head = codes " variable[nodes] = {\n"

abbrev pub high_head : List ℕ
high_head = codes " high[nodes] = {\n"

abbrev pub low_head : List ℕ
low_head = codes " low[nodes] = {\n"

abbrev pub row_head : List ℕ
row_head = codes " row[states] = {\n"

abbrev pub accept_head : List ℕ
accept_head = codes " accept[states] = {\n"

abbrev pub accept_number : Bool → ℕ
accept_number accepts = if accepts then 1 else 0

abbrev pub variable_line : TableNode → Layout
variable_line node = number_line node.variable

abbrev pub high_line : TableNode → Layout
high_line node = number_line node.high

abbrev pub low_line : TableNode → Layout
low_line node = number_line node.low

abbrev pub row_line : TableState → Layout
row_line state = number_line state.row

abbrev pub accept_line : TableState → Layout
accept_line state = number_line (accept_number state.accepts)

abbrev pub node_arrays : List ℕ → List TableNode → Layout
node_arrays integer [] = Empty
node_arrays integer (node ∷ nodes) =
    array_lines char_type variable_head (Each variable_line (node ∷ nodes))
    <> array_lines integer high_head (Each high_line (node ∷ nodes))
    <> array_lines integer low_head (Each low_line (node ∷ nodes))

abbrev pub state_arrays : List ℕ → List TableState → Layout
state_arrays integer states =
    array_lines integer row_head (Each row_line states)
    <> array_lines char_type accept_head (Each accept_line states)

-- ---- the functions

abbrev pub counts_line : ℕ → ℕ → ℕ → Layout
counts_line states nodes variables =
    Word (codes "enum { states = ") <> Word (decimal states) <> Word (codes ", nodes = ") <> Word (decimal nodes)
    <> Word (codes ", variables = ") <> Word (decimal variables) <> Word (codes " };\n\n")

abbrev pub reset_lines : List ℕ → Layout
reset_lines integer = Word (codes "static ") <> Word integer <> Word (codes " st;\n\nvoid observer_reset(void)\n{\n  st = 0;\n}\n\nint observer_step(")

abbrev pub declaration : List ℕ → Layout
declaration name = Word (codes "int ") <> Word name

abbrev pub parameters_layout : List (List ℕ) → Layout
parameters_layout [] = Word (codes "void")
parameters_layout (name ∷ names) = Joined (Word (codes ", ")) declaration (name ∷ names)

abbrev pub letter_line : ℕ × List ℕ → Layout
letter_line numbered = Word (codes "  letter[") <> Word (decimal numbered.0) <> Word (codes "] = ") <> Word numbered.1 <> Word (codes ";\n")

abbrev pub if_some : Bool → Layout → Layout
if_some true layout = layout
if_some false layout = Empty

abbrev pub loop_line : Layout
loop_line = Word (codes "  while (at >= states) at = letter[variable[at - states]] ? high[at - states] : low[at - states];\n")

abbrev pub at_line : List ℕ → Layout
at_line integer = Word (codes "  ") <> Word integer <> Word (codes " at;\n\n")

-- the body of a step, where there is a node or none
abbrev pub body_lines : List ℕ → List (List ℕ) → Bool → Layout
body_lines integer parameters some =
    if_some some (Word (codes "  int letter[variables];\n"))
    <> at_line integer
    <> if_some some (Each letter_line (enumerate_from 0 parameters))
    <> Word (codes "  at = row[st];\n") <> if_some some loop_line <> Word (codes "  st = at;\n  return accept[st];\n}\n")

abbrev pub has_nodes : List TableNode → Bool
has_nodes [] = false
has_nodes (node ∷ nodes) = true

abbrev pub step_lines : List ℕ → List (List ℕ) → List TableNode → Layout
step_lines integer parameters nodes = parameters_layout parameters <> Word (codes ")\n{\n") <> body_lines integer parameters (has_nodes nodes)

-- ---- the unit

unfoldable pub layout_of : Tables → Layout
layout_of tables =
    let integer = type_of tables in
    counts_line (length tables.states) (length tables.nodes) (length tables.parameters)
    <> node_arrays integer tables.nodes <> state_arrays integer tables.states <> reset_lines integer <> step_lines integer tables.parameters tables.nodes

unfoldable pub text_of : Tables → List ℕ
text_of tables = text_in (layout_of tables)
