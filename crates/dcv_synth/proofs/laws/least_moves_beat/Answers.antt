use Rattle.dcv_synth.proofs.LeastMoves.{least_moves_beat}
use Rattle.dcv_synth.proofs.laws.least_moves_beat.Goals as goal

pub returns : goal.returns
returns c = least_moves_beat
