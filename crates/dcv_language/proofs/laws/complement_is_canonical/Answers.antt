use Rattle.dcv_language.proofs.Complements.{complement_is_canonical}
use Rattle.dcv_language.proofs.laws.complement_is_canonical.Goals as goal

pub returns : goal.returns
returns c = complement_is_canonical
