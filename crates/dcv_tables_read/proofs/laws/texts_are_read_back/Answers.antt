use Rattle.dcv_tables_read.proofs.ReadBack.{text_is_read_back}
use Rattle.dcv_tables_read.proofs.laws.texts_are_read_back.Goals as goal

pub returns : goal.returns
returns c = text_is_read_back c.tables_accept_as_the_file.ensures
