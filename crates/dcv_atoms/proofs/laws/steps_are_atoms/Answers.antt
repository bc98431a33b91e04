use Rattle.dcv_atoms.proofs.StepFacts.{step_is_atom}
use Rattle.dcv_atoms.proofs.laws.steps_are_atoms.Goals as goal

pub returns : goal.returns
returns c = step_is_atom
