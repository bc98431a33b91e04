-- By the operator, each operation is on what the tables of the operands accept.
use Rattle.dcv_build.proofs.StepMachines.{machine_accepts_step}
use Rattle.dcv_build.proofs.laws.machines_accept_steps.Goals as goal

pub returns : goal.returns
returns c = machine_accepts_step c.steps_are_operations.ensures.each c.machines_accept_steps.ensures.step
