use Rattle.dcv_automaton_file.proofs.Tables.{file_table}
use Rattle.dcv_automaton_file.proofs.laws.files_stand_for_automata.Goals as goal

pub returns : goal.returns
returns c = file_table c.lines_are_of_tables.ensures.lead
