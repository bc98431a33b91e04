use Rattle.dcv_synth.proofs.Controls.{not_both_are_right}
use Rattle.dcv_synth.proofs.laws.one_side_is_right.Goals as goal

pub returns : goal.returns
returns c = not_both_are_right
