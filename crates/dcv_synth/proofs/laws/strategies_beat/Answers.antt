use Rattle.dcv_synth.proofs.SameSets.{strategies_beat}
use Rattle.dcv_synth.proofs.laws.strategies_beat.Goals as goal

pub returns : goal.returns
returns c = strategies_beat c.least_moves_beat.ensures
