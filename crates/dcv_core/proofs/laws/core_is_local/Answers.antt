use Rattle.dcv_core.proofs.Local.{core_is_local}
use Rattle.dcv_core.proofs.laws.core_is_local.Goals as goal

pub returns : goal.returns
returns c = core_is_local
