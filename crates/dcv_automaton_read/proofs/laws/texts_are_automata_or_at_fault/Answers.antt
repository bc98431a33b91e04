use Rattle.dcv_automaton_read.proofs.GoodTexts.{some_reading, no_fault_where_read, one_fault}
use Rattle.dcv_automaton_read.proofs.laws.texts_are_automata_or_at_fault.Goals as goal

pub returns : goal.returns
returns c =
    let either = c.texts_have_the_form_or_a_fault.ensures in
    let one = c.one_file.ensures in
    record { some = some_reading either.some; none = no_fault_where_read one; one = one_fault one either.one either.none }
