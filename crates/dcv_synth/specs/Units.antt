-- A controller in the flat subset of C. Its static `st` is the state between two steps, its local `nx` the state after the step and `y` what the
-- step returns; `nJ` is the state to which node J of the next-state rows leads at the inputs of the step, and `oJ` the number that node J of the
-- output rows has there.
--     ControlLines               the names of the inputs, the states, and the lines of both kinds of rows
--     unit_of_lines all          its unit
--     choices name names lines   the statements of nodes, whose names are these by their numbers
--     state_choices row          both statements of a state, by its number and its rows
--     controller_in m unit       the controller that gives what a unit's steps return, as a letter over m outputs
use Rattle.std.specs.Prelude.{ℕ, List, [], ◌∷◌, ◌++◌, length, map, codes, slice_index_or}
use Rattle.std.specs.Fmt.{decimal}
use Rattle.std.specs.List.{enumerate_from, range_with_len, flat_map, zip}
use Rattle.std.specs.Str.{byte}
use Rattle.dcv_word.specs.Letter.{letter_of}
use Rattle.dcv_language.specs.declared.child.Child.{Child}
use Rattle.dcv_language.specs.declared.child.Child.TheVariants.{State, Node}
use Rattle.dcv_dfa.specs.declared.node_lines.NodeLine.{NodeLine}
use Rattle.dcv_dfa.specs.NodeLines.{NodeLinesValue}
use Rattle.dcv_c.specs.Tree.{Item, Constant, Named, Holds, Equals, Plain, Chosen, Statement, Assign, When, Read, CUnit}
use Rattle.dcv_c.specs.Meaning.{returned_after}
use Rattle.dcv_c.specs.Observer.{state_name, next_name, node_name, parameter_name}
use Rattle.dcv_synth.specs.Game.{Controller}

pub record ControlLines : Type 0 where
  pub names : List (List ℕ)
  pub states : List ℕ
  pub next : NodeLinesValue
  pub output : NodeLinesValue

-- ---- names

abbrev pub output_name : List ℕ
output_name = codes "y"

abbrev pub output_node_name : ℕ → List ℕ
output_node_name number = byte "o" ∷ decimal number

abbrev pub reset_name : List ℕ
reset_name = codes "controller_reset"

abbrev pub step_name : List ℕ
step_name = codes "controller_step"

abbrev pub input_name : List (List ℕ) → ℕ → List ℕ
input_name names slot = parameter_name (slice_index_or names slot [])

abbrev pub names_of_nodes : (ℕ → List ℕ) → ℕ → List (List ℕ)
names_of_nodes name count = map name (range_with_len 0 count)

abbrev pub local_names : ℕ → ℕ → List (List ℕ)
local_names nexts outputs = next_name ∷ output_name ∷ names_of_nodes node_name nexts ++ names_of_nodes output_node_name outputs

-- ---- statements

-- a number, or the name of a node
abbrev pub target : (ℕ → List ℕ) → Child → Item
target name (State number) = Constant number
target name (Node number) = Named (name number)

-- `nx = 0`, `y = 0`
abbrev pub cleared : List ℕ → Statement
cleared name = Assign name (Plain (Constant 0))

-- `nJ = v_NAME ? HI : LO`
abbrev pub choice : (ℕ → List ℕ) → List (List ℕ) → ℕ × NodeLine → Statement
choice name names numbered =
    let line = numbered.1 in
    Assign (name numbered.0) (Chosen (Holds (input_name names line.slot)) (target name line.hi) (target name line.lo))

abbrev pub choices : (ℕ → List ℕ) → List (List ℕ) → List NodeLine → List Statement
choices name names lines = map (choice name names) (enumerate_from 0 lines)

-- `if (st == I) nx = R`
abbrev pub next_choice : ℕ → Child → Statement
next_choice state child = When (Equals state_name state) next_name (target node_name child)

-- `if (st == I) y = R`
abbrev pub output_choice : ℕ → Child → Statement
output_choice state child = When (Equals state_name state) output_name (target output_node_name child)

abbrev pub state_choices : ℕ × (Child × Child) → List Statement
state_choices row = next_choice row.0 row.1.0 ∷ output_choice row.0 row.1.1 ∷ []

abbrev pub all_state_choices : List ℕ → List Child → List Child → List Statement
all_state_choices states nexts outputs = flat_map state_choices (zip states (zip nexts outputs))

-- `st = nx`
abbrev pub last_statement : Statement
last_statement = Assign state_name (Plain (Named next_name))

abbrev pub statements_of : ControlLines → List Statement
statements_of all =
    cleared next_name ∷ cleared output_name
    ∷ choices node_name all.names all.next.lines
    ++ (choices output_node_name all.names all.output.lines
    ++ (all_state_choices all.states all.next.rows all.output.rows ++ last_statement ∷ []))

-- ---- the unit

unfoldable pub unit_of_lines : ControlLines → CUnit
unit_of_lines all =
    record {
      statics = state_name ∷ [];
      reset = reset_name;
      assignments = record { name = state_name; number = 0 } ∷ [];
      step = step_name;
      parameters = map parameter_name all.names;
      locals = local_names (length all.next.lines) (length all.output.lines);
      statements = statements_of all;
      returned = Read output_name;
    }

-- ---- the controller that a unit is

abbrev pub controller_in : ℕ → CUnit → Controller
controller_in m unit inputs = letter_of m (returned_after unit inputs)
