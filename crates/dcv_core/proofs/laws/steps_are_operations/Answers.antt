use Rattle.dcv_core.proofs.StepList.{steps_are_operations, last_step_is_core}
use Rattle.dcv_core.proofs.laws.steps_are_operations.Goals as goal

pub returns-clause-each : goal.returns-clause-each
returns-clause-each c = steps_are_operations

pub returns-clause-last : goal.returns-clause-last
returns-clause-last c = last_step_is_core
