use Rattle.dcv_reader.proofs.Names.{names_are_short}
use Rattle.dcv_reader.proofs.laws.names_are_short.Goals as goal

pub returns : goal.returns
returns c = names_are_short
