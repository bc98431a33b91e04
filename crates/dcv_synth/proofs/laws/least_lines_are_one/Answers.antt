use Rattle.dcv_synth.proofs.LeastLines.{controls_have_least_lines, least_lines_are_one}
use Rattle.dcv_synth.proofs.laws.least_lines_are_one.Goals as goal

pub returns : goal.returns
returns c = record { have = controls_have_least_lines; one = least_lines_are_one }
