use Rattle.dcv_synth.proofs.Controls.{controls_win}
use Rattle.dcv_synth.proofs.laws.controls_win.Goals as goal

pub returns : goal.returns
returns c = controls_win
