use Rattle.dcv_sweep.proofs.Rows.{formula_of_seed_0}
use Rattle.dcv_sweep.proofs.laws.formula_of_seed_0.Goals as goal

pub returns : goal.returns
returns c = formula_of_seed_0
