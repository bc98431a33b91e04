use Rattle.dcv_print.proofs.Observers.{one_node, one_unit, one_tables, node_of_same_behaviours, unit_of_same_behaviours, tables_of_same_behaviours}
use Rattle.dcv_print.proofs.laws.one_observer.Goals as goal

pub returns : goal.returns
returns c = record {
  node = one_node c.one_automaton.ensures;
  unit = one_unit c.one_automaton.ensures;
  tables = one_tables c.one_automaton.ensures;
  node_of_same = node_of_same_behaviours c.automaton_of_same_behaviours.ensures;
  unit_of_same = unit_of_same_behaviours c.automaton_of_same_behaviours.ensures;
  tables_of_same = tables_of_same_behaviours c.automaton_of_same_behaviours.ensures;
}
