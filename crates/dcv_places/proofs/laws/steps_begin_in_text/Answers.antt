use Rattle.dcv_places.proofs.StepSpans.{steps_begin_in_text}
use Rattle.dcv_places.proofs.laws.steps_begin_in_text.Goals as goal

pub returns : goal.returns
returns c = steps_begin_in_text
