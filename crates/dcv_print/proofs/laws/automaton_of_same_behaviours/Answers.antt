use Rattle.dcv_print.proofs.SameBehaviours.{automaton_of_same_behaviours}
use Rattle.dcv_print.proofs.laws.automaton_of_same_behaviours.Goals as goal

pub returns : goal.returns
returns c = automaton_of_same_behaviours c.canonical_for_same_behaviours.ensures
