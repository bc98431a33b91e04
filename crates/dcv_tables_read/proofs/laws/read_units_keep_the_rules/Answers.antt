use Rattle.dcv_tables_read.proofs.KeptRules.{read_units_keep}
use Rattle.dcv_tables_read.proofs.laws.read_units_keep_the_rules.Goals as goal

pub returns : goal.returns
returns c = read_units_keep
