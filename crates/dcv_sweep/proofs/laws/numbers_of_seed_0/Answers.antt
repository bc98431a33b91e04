use Rattle.dcv_sweep.proofs.Rows.{numbers_of_seed_0}
use Rattle.dcv_sweep.proofs.laws.numbers_of_seed_0.Goals as goal

pub returns : goal.returns
returns c = numbers_of_seed_0
