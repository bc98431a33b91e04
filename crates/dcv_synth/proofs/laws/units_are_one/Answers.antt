use Rattle.dcv_synth.proofs.OneUnit.{same_controls_have_one_unit}
use Rattle.dcv_synth.proofs.laws.units_are_one.Goals as goal

pub returns : goal.returns
returns c = same_controls_have_one_unit c.lines_are_of_rows.ensures.one
