use Rattle.dcv_sweep.proofs.Adding.{steps_of_formula}
use Rattle.dcv_sweep.proofs.formulas.drawn_core.Goals as goal

pub returns-clause-declared : goal.returns-clause-declared
returns-clause-declared c = (steps_of_formula c.args.draw.now c.new-core.ensures c.in_ok-formula.ensures).0

pub returns-clause-steps : goal.returns-clause-steps
returns-clause-steps c = (steps_of_formula c.args.draw.now c.new-core.ensures c.in_ok-formula.ensures).1

pub returns-clause-state : goal.returns-clause-state
returns-clause-state c = (steps_of_formula c.args.draw.now c.new-core.ensures c.in_ok-formula.ensures).2
