use Rattle.dcv_print.proofs.Observers.{printed_says_node, printed_says_unit, printed_says_tables}
use Rattle.dcv_print.proofs.laws.printed_observers_observe.Goals as goal

pub returns : goal.returns
returns c = record {
  node = printed_says_node c.observers_accept_the_same.ensures.automaton c.texts_spell_nodes.ensures.back c.printed_is_automaton.ensures;
  unit = printed_says_unit c.observers_accept_the_same-2.ensures.automaton c.texts_spell_units.ensures.back c.printed_is_automaton.ensures;
  tables = printed_says_tables c.tables_accept_as_the_file.ensures c.printed_is_automaton.ensures;
}
