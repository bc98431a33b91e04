use Rattle.std.proofs.Common.{◌+◌, ◌*◌}
use Rattle.dcv_sweep.proofs.formulas.+formulas.Given as goal

-- the operands of an operator are drawn one less deep
abbrev pub decreases-formula : goal.decreases-formula
decreases-formula l = 3 * l.depth

abbrev pub decreases-operation : goal.decreases-operation
decreases-operation l = 3 * l.depth + 2

abbrev pub decreases-joined : goal.decreases-joined
decreases-joined l = 3 * l.depth + 1
