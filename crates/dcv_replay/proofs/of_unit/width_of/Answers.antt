use Rattle.std.proofs.Common.{ap, length, arith}
use Rattle.dcv_replay.proofs.UnitNames.{few_parameters}
use Rattle.dcv_replay.proofs.of_unit.width_of.Goals as goal

pub overflow_cast-result : goal.overflow_cast-result
overflow_cast-result c = omega (arith, c.len.ensures, ap length c.step.ensures.parameters, few_parameters c.args.unit.now c.keeps_the_rules.ensures.names)
