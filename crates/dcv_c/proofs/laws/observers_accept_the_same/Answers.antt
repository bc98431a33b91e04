use Rattle.dcv_c.proofs.ObserverLaws.{observer_of_file, observer_of_automaton}
use Rattle.dcv_c.proofs.laws.observers_accept_the_same.Goals as goal

pub returns-clause-file : goal.returns-clause-file
returns-clause-file c = observer_of_file c.letters_of_width_are_all.ensures.place c.good_files_are_tables.ensures.table

pub returns-clause-automaton : goal.returns-clause-automaton
returns-clause-automaton c =
    observer_of_automaton c.letters_of_width_are_all.ensures.place
    c.files_stand_for_automata.ensures c.tables_have_the_states.ensures.table c.tables_accept_the_same.ensures.accepts
