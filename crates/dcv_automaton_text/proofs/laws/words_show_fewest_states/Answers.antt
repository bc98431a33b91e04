use Rattle.dcv_automaton_text.proofs.AccessLines.{words_show_fewest_states}
use Rattle.dcv_automaton_text.proofs.laws.words_show_fewest_states.Goals as goal

pub returns : goal.returns
returns c = words_show_fewest_states c.no_table_has_fewer_states.ensures.certificate
