use Rattle.std.proofs.Common.{arith}
use Rattle.dcv_joint.proofs.MovedSteps.{few_on, few_ends}
use Rattle.dcv_joint.proofs.moving.Moving.has_few_slots.Goals as goal

pub loop-step-preserved : goal.loop-step-preserved
loop-step-preserved c =
    let moving = c.args.self.now in
    few_on moving.places.now moving.width c.args.core.now.steps c.loop-step.step c.slots.result (omega arith) c.slots.ensures c.loop-step.invariant (omega (arith, c.moved_slots.ensures))

pub returns-then-moved_slots : goal.returns-then-moved_slots
returns-then-moved_slots c =
    let moving = c.args.self.now in
    few_ends moving.places.now moving.width c.args.core.now.steps c.loop-step.step c.slots.result (omega arith) c.slots.ensures c.loop-step.invariant (omega (arith, c.moved_slots.ensures))
