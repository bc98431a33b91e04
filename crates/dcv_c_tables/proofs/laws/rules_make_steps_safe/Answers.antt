use Rattle.dcv_c_tables.proofs.Ends.{steps_are_safe}
use Rattle.dcv_c_tables.proofs.laws.rules_make_steps_safe.Goals as goal

pub returns : goal.returns
returns c = steps_are_safe
