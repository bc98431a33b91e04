use Rattle.dcv_synth.proofs.OneAnswer.{one_control_is_right, one_strategy_is_right}
use Rattle.dcv_synth.proofs.laws.answers_are_one.Goals as goal

pub returns-clause-control : goal.returns-clause-control
returns-clause-control c = one_control_is_right

pub returns-clause-strategy : goal.returns-clause-strategy
returns-clause-strategy c = one_strategy_is_right
