-- The observer of an automaton, by the automaton's file. Access words and suffixes do not matter to it. Its static `st` is the state between two
-- steps, its local `nx` the state after the step, and `nJ` the state to which node J leads at the letter of the step.
--     observer_of file          the unit
--     node_statement line       the statement of a node
--     state_statement line      that of a state
--     returned_for tests        what a step returns, by the tests of the states that accept
use Rattle.std.specs.Prelude.{ℕ, List, [], ◌∷◌, ◌++◌, map, codes}
use Rattle.std.specs.List.{filter}
use Rattle.dcv_language.specs.declared.child.Child.{Child}
use Rattle.dcv_language.specs.declared.child.Child.TheVariants.{State, Node}
use Rattle.dcv_automaton_text.specs.File.{NodeLine, StateLine, AutomatonFile}
pub use Rattle.dcv_observer.specs.Naming.{state_name, next_name, node_name, variable_name as parameter_name}
use Rattle.dcv_c.specs.Tree.{Item, Constant, Named, Holds, Equals, Test, Plain, Chosen, Statement, Assign, When, Returned, Fixed, Tested, CUnit}

-- ---- names

abbrev pub reset_name : List ℕ
reset_name = codes "observer_reset"

abbrev pub step_name : List ℕ
step_name = codes "observer_step"

-- ---- statements

-- a state is its number
abbrev pub item_of : Child → Item
item_of (State state) = Constant state
item_of (Node number) = Named (node_name number)

-- `nx = 0`
abbrev pub first_statement : Statement
first_statement = Assign next_name (Plain (Constant 0))

-- `nJ = v_NAME ? HI : LO`
abbrev pub node_statement : NodeLine → Statement
node_statement line = Assign (node_name line.number) (Chosen (Holds (parameter_name line.name)) (item_of line.hi) (item_of line.lo))

-- `if (st == I) nx = RI`
abbrev pub state_statement : StateLine → Statement
state_statement line = When (Equals state_name line.number) next_name (item_of line.row)

-- `st = nx`
abbrev pub last_statement : Statement
last_statement = Assign state_name (Plain (Named next_name))

-- `nx == I`
abbrev pub state_test : StateLine → Test
state_test line = record { name = next_name; number = line.number }

abbrev pub accepting_tests : List StateLine → List Test
accepting_tests lines = map state_test (filter (λ (line : StateLine). line.accepting) lines)

-- the tests, or 0 where there are none
abbrev pub returned_for : List Test → Returned
returned_for [] = Fixed 0
returned_for (test ∷ tests) = Tested (test ∷ tests)

-- ---- the unit

abbrev pub node_local : NodeLine → List ℕ
node_local line = node_name line.number

unfoldable pub observer_of : AutomatonFile → CUnit
observer_of file =
    record {
      statics = state_name ∷ [];
      reset = reset_name;
      assignments = record { name = state_name; number = 0 } ∷ [];
      step = step_name;
      parameters = map parameter_name file.names;
      locals = next_name ∷ map node_local file.node_lines;
      statements =
          first_statement ∷ map node_statement file.node_lines
          ++ (map state_statement file.state_lines ++ last_statement ∷ []);
      returned = returned_for (accepting_tests file.state_lines);
    }
