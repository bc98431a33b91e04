use Rattle.std.proofs.Common.{arith}
use Rattle.dcv_core.specs.StepViews.{plain_op}
use Rattle.dcv_joint.proofs.MovedSteps.{few_at, below_at}
use Rattle.dcv_joint.proofs.moving.Moving.add_step.Goals as goal

pub operator-requires : goal.operator-requires
operator-requires c =
    below_at c.args.self.now.places.now c.args.self.now.width c.args.core.now.steps c.args.step (plain_op c.op.result) c.requires.step c.requires.few c.requires.in_use c.op.ensures

pub overflow_cast-slots : goal.overflow_cast-slots
overflow_cast-slots c =
    omega (arith, few_at c.args.self.now.places.now c.args.self.now.width c.args.core.now.steps c.args.step c.slots.result c.requires.step c.requires.few c.slots.ensures, c.moved_slots-slots.ensures)
