-- The tables of an automaton, by the automaton's file. Access words and suffixes do not matter to them.
--     seen_node states line      a line of the code's as a node of a unit
--     place_of states child      the number of a state, and that of a node counted on after the states
--     tables_of file             the unit
use Rattle.std.specs.Prelude.{ℕ, ◌+◌, List, length, map}
use Rattle.dcv_language.specs.declared.child.Child.{Child}
use Rattle.dcv_language.specs.declared.child.Child.TheVariants.{State, Node}
use Rattle.dcv_dfa.specs.declared.node_lines.NodeLine.{NodeLine as CodeNodeLine}
use Rattle.dcv_automaton_text.specs.File.{NodeLine, StateLine, AutomatonFile}
use Rattle.dcv_automaton_text.specs.Rules.{slot_of}
pub use Rattle.dcv_observer.specs.Naming.{variable_name as parameter_name}
use Rattle.dcv_c_tables.specs.Unit.{TableNode, TableState, Tables}

abbrev pub place_of : ℕ → Child → ℕ
place_of states (State state) = state
place_of states (Node number) = states + number

abbrev pub seen_node : ℕ → CodeNodeLine → TableNode
seen_node states line = record { variable = line.slot; high = place_of states line.hi; low = place_of states line.lo }

abbrev pub table_node : List (List ℕ) → ℕ → NodeLine → TableNode
table_node names states line = record { variable = slot_of names line.name; high = place_of states line.hi; low = place_of states line.lo }

abbrev pub table_state : ℕ → StateLine → TableState
table_state states line = record { row = place_of states line.row; accepts = line.accepting }

unfoldable pub tables_of : AutomatonFile → Tables
tables_of file =
    let states = length file.state_lines in
    record {
      parameters = map parameter_name file.names;
      nodes = map (table_node file.names states) file.node_lines;
      states = map (table_state states) file.state_lines;
    }
