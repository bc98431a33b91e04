use Rattle.dcv_stuck.proofs.Onward.{never_stuck_goes_on}
use Rattle.dcv_stuck.proofs.laws.never_stuck_goes_on.Goals as goal

pub returns : goal.returns
returns c = never_stuck_goes_on
