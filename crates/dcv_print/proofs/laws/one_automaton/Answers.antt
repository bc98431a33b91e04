use Rattle.dcv_print.proofs.OneAutomaton.{one_automaton}
use Rattle.dcv_print.proofs.laws.one_automaton.Goals as goal

pub returns : goal.returns
returns c = one_automaton c.one_canonical_table.ensures
