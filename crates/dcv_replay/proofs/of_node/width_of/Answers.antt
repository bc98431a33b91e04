use Rattle.std.proofs.Common.{ap, length, arith}
use Rattle.dcv_replay.proofs.NodeNames.{few_inputs}
use Rattle.dcv_replay.proofs.of_node.width_of.Goals as goal

pub overflow_cast-result : goal.overflow_cast-result
overflow_cast-result c = omega (arith, ap length c.inputs-inputs.ensures, few_inputs c.args.node.now c.keeps_the_rules.ensures.names)
