use Rattle.dcv_c_tables.proofs.Accepts.{tables_of_file}
use Rattle.dcv_c_tables.proofs.laws.tables_accept_as_the_file.Goals as goal

pub returns : goal.returns
returns c = tables_of_file c.letters_of_width_are_all.ensures.place c.good_files_are_tables.ensures.table
