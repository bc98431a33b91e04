use Rattle.dcv_language.proofs.Canonicals.{canonical_for_same_behaviours}
use Rattle.dcv_language.proofs.laws.canonical_for_same_behaviours.Goals as goal

pub returns : goal.returns
returns c = canonical_for_same_behaviours
