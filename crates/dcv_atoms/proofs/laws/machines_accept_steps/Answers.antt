use Rattle.dcv_atoms.proofs.StepFacts.{accepts_atom, accepts_step}
use Rattle.dcv_atoms.proofs.laws.machines_accept_steps.Goals as goal

pub returns-clause-atom : goal.returns-clause-atom
returns-clause-atom c = accepts_atom c.machines_accept_forms.ensures c.words_are_operations.ensures.atom

pub returns-clause-step : goal.returns-clause-step
returns-clause-step c = accepts_step c.machines_accept_forms.ensures c.steps_are_operations.ensures.each
