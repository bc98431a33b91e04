use Rattle.dcv_synth.proofs.LeastOutputs.{least_outputs_win}
use Rattle.dcv_synth.proofs.laws.least_outputs_win.Goals as goal

pub returns : goal.returns
returns c = least_outputs_win
