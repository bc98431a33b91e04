use Rattle.dcv_automaton_lines.proofs.OneFault.{one_place, no_fault_of_form}
use Rattle.dcv_automaton_lines.proofs.ReadForms.{some_form}
use Rattle.dcv_automaton_lines.proofs.laws.texts_have_the_form_or_a_fault.Goals as goal

pub returns : goal.returns
returns c = record { some = some_form; none = no_fault_of_form; one = one_place }
