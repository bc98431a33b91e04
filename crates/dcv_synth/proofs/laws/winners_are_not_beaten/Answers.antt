use Rattle.dcv_synth.proofs.Winners.{winners_are_not_beaten}
use Rattle.dcv_synth.proofs.laws.winners_are_not_beaten.Goals as goal

pub returns : goal.returns
returns c = winners_are_not_beaten
