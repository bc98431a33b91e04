use Rattle.dcv_print.proofs.PrintedAutomata.{printed_is_automaton}
use Rattle.dcv_print.proofs.laws.printed_is_automaton.Goals as goal

pub returns : goal.returns
returns c = printed_is_automaton c.lines_are_of_tables.ensures.lead
