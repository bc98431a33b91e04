use Rattle.dcv_scope.proofs.Sizes.{steps_are_few, slots_are_few, slots_are_in_use}
use Rattle.dcv_scope.proofs.laws.measures_bound_core.Goals as goal

pub returns-clause-steps : goal.returns-clause-steps
returns-clause-steps c = steps_are_few

pub returns-clause-slots : goal.returns-clause-slots
returns-clause-slots c = slots_are_few

pub returns-clause-in_use : goal.returns-clause-in_use
returns-clause-in_use c = slots_are_in_use
