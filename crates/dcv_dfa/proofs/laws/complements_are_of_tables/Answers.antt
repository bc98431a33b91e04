use Rattle.dcv_dfa.proofs.Complements.{table_of_complement}
use Rattle.dcv_dfa.proofs.laws.complements_are_of_tables.Goals as goal

pub returns : goal.returns
returns c = table_of_complement
