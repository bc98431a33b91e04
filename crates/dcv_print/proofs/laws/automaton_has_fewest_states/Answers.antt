use Rattle.dcv_print.proofs.SameBehaviours.{automaton_has_fewest_states}
use Rattle.dcv_print.proofs.laws.automaton_has_fewest_states.Goals as goal

pub returns : goal.returns
returns c = automaton_has_fewest_states c.words_show_fewest_states.ensures
