-- How clauses see a unit that was read.
--     seen_tables unit        the unit as plain data
use Rattle.std.specs.Prelude.{map}
use Rattle.dcv_c_tables.specs.Unit.{TableNode as Node, TableState as State, Tables}
use Rattle.dcv_c_tables.specs.Observer.{parameter_name}
use Rattle.dcv_tables_read.specs.declared.unit.TableNode.{TableNode}
use Rattle.dcv_tables_read.specs.declared.unit.TableState.{TableState}
use Rattle.dcv_tables_read.specs.declared.unit.TableUnit.{TableUnit}

abbrev pub seen_node : TableNode → Node
seen_node node = record { variable = node.variable; high = node.high; low = node.low }

abbrev pub seen_state : TableState → State
seen_state state = record { row = state.row; accepts = state.accepts }

abbrev pub seen_tables : TableUnit → Tables
seen_tables unit =
    record {
      parameters = map (λ name. parameter_name name.now) unit.names.items;
      nodes = map seen_node unit.nodes.items;
      states = map seen_state unit.states.items;
    }
