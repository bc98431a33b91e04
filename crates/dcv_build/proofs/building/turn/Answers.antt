use Rattle.std.proofs.Common.{◌≡◌, length, subst, arith}
use Rattle.dcv_build.specs.Building.{IsGoal}
use Rattle.dcv_build.proofs.building.turn.Goals as goal

pub turned-requires-clause-turn : goal.turned-requires-clause-turn
turned-requires-clause-turn c = c.requires.turn c.loop-step.step (omega arith) (omega arith)

pub loop-step-init : goal.loop-step-init
loop-step-init c limits was = was

pub loop-step-preserved : goal.loop-step-preserved
loop-step-preserved c limits was = c.in_ok-auto.ensures limits (c.loop-step.invariant limits was)

pub returns : goal.returns
returns c limits was =
    let all : c.loop-step.step ≡ length c.args.core.now.steps = omega arith in
    subst (λ n. IsGoal c.args.core.now limits n c.loop-step.auto' c.loop-step.counts.items) all (c.loop-step.invariant limits was)
