-- The observer of an automaton, by the automaton's file. Access words and suffixes do not matter to it. Its local `st` is the state before an
-- instant, `nx` the state after it, and `nJ` the state to which node J leads at the letter of the instant.
--     observer_of file      the node
--     node_equation line    what the equation of a node says
--     next_equation lines   that of `nx`, by the lines of the states
--     ok_equation lines     that of the output
use Rattle.std.specs.Prelude.{ℕ, false, List, [], ◌∷◌, ◌++◌, map, codes}
use Rattle.std.specs.List.{filter}
use Rattle.dcv_language.specs.declared.child.Child.{Child}
use Rattle.dcv_language.specs.declared.child.Child.TheVariants.{State, Node as AtNode}
use Rattle.dcv_automaton_text.specs.File.{NodeLine, StateLine, AutomatonFile}
pub use Rattle.dcv_observer.specs.Naming.{state_name, next_name, node_name, variable_name as input_name}
use Rattle.dcv_lustre.specs.Tree.{Truth, Number, OfNumber, Item, Constant, Named, Holds, Equals, Arm, Test, Right, Delayed, Chosen, Tested, Equation}
use Rattle.dcv_lustre.specs.Tree.{Local, Node}
use Rattle.dcv_lustre.specs.Meaning.{ok, tick}

-- ---- names

abbrev pub input_names : List (List ℕ) → List (List ℕ)
input_names [] = tick ∷ []
input_names (name ∷ names) = map input_name (name ∷ names)

-- ---- equations

-- a state is its number
abbrev pub item_of : Child → Item
item_of (State state) = Constant (Number state)
item_of (AtNode number) = Named (node_name number)

-- `st = 0 -> pre nx`
abbrev pub state_equation : Equation
state_equation = record { left = state_name; right = Delayed (Number 0) next_name }

-- `nJ = if v_NAME then HI else LO`
abbrev pub node_equation : NodeLine → Equation
node_equation line =
    record {
      left = node_name line.number;
      right = Chosen (record { condition = Holds (input_name line.name); item = item_of line.hi } ∷ []) (item_of line.lo);
    }

-- `if st = I then RI else`, for each state but the last
abbrev pub row_arms : List StateLine → List Arm
row_arms [] = []
row_arms (line ∷ []) = []
row_arms (line ∷ next ∷ lines) = record { condition = Equals state_name line.number; item = item_of line.row } ∷ row_arms (next ∷ lines)

abbrev pub last_row : List StateLine → Child
last_row [] = State 0
last_row (line ∷ []) = line.row
last_row (line ∷ next ∷ lines) = last_row (next ∷ lines)

abbrev pub next_equation : List StateLine → Equation
next_equation lines = record { left = next_name; right = Chosen (row_arms lines) (item_of (last_row lines)) }

-- `(nx = I)`
abbrev pub state_test : StateLine → Test
state_test line = record { name = next_name; number = line.number }

abbrev pub accepting_tests : List StateLine → List Test
accepting_tests lines = map state_test (filter (λ (line : StateLine). line.accepting) lines)

-- the tests, or `false` where there are none
abbrev pub ok_right : List Test → Right
ok_right [] = Chosen [] (Constant (Truth false))
ok_right (test ∷ tests) = Tested (test ∷ tests)

abbrev pub ok_equation : List StateLine → Equation
ok_equation lines = record { left = ok; right = ok_right (accepting_tests lines) }

-- ---- the node

abbrev pub number_local : List ℕ → Local
number_local name = record { name = name; kind = OfNumber }

abbrev pub node_local : NodeLine → Local
node_local line = number_local (node_name line.number)

unfoldable pub observer_of : AutomatonFile → Node
observer_of file =
    record {
      name = codes "observer";
      inputs = input_names file.names;
      locals = number_local state_name ∷ number_local next_name ∷ map node_local file.node_lines;
      equations =
          state_equation ∷ map node_equation file.node_lines
          ++ (next_equation file.state_lines ∷ ok_equation file.state_lines ∷ []);
    }
