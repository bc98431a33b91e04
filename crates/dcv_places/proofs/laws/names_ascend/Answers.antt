use Rattle.dcv_places.proofs.NamesInOrder.{names_ascend}
use Rattle.dcv_places.proofs.laws.names_ascend.Goals as goal

pub returns : goal.returns
returns c = names_ascend
