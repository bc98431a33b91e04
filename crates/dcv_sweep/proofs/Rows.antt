-- The first numbers and the first formula of seed 0, by computing.
use Rattle.std.proofs.Common.{refl}
use Rattle.dcv_sweep.specs.DrawnCores.{drawn_formula, drawn_formulas}
use Rattle.dcv_sweep.specs.Laws.{NumbersOfSeed0, FormulaOfSeed0}

pub numbers_of_seed_0 : NumbersOfSeed0
numbers_of_seed_0 = refl

pub formula_of_seed_0 : FormulaOfSeed0
unfolding drawn_formula drawn_formulas
formula_of_seed_0 = refl
