use Rattle.dcv_automaton_text.proofs.GoodTables.{good_files_are_tables, table_has_the_files_states}
use Rattle.dcv_automaton_text.proofs.laws.good_files_are_tables.Goals as goal

pub returns : goal.returns
returns c = record { table = good_files_are_tables c.letters_of_width_are_all.ensures.count; states = table_has_the_files_states }
