use Rattle.dcv_build.proofs.SameVerdicts.{verdict_of_same_verdict}
use Rattle.dcv_build.proofs.laws.verdict_of_same_verdict.Goals as goal

pub returns : goal.returns
returns c = verdict_of_same_verdict
