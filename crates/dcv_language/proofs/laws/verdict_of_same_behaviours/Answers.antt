use Rattle.dcv_language.proofs.Least.{verdict_of_same_behaviours}
use Rattle.dcv_language.proofs.laws.verdict_of_same_behaviours.Goals as goal

pub returns : goal.returns
returns c = verdict_of_same_behaviours
