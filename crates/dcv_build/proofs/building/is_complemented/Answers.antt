use Rattle.std.proofs.Common.{◌≡◌, length, subst, arith}
use Rattle.dcv_build.specs.Building.{IsVerdictGoal}
use Rattle.dcv_build.proofs.Turning.{turned_verdict_goal}
use Rattle.dcv_build.proofs.building.is_complemented.Goals as goal

pub loop-step-preserved : goal.loop-step-preserved
loop-step-preserved c limits raw is =
    let here = c.requires.turn c.loop-step._step (omega arith) (omega arith) in
    turned_verdict_goal c.machines_accept_steps.ensures.step c.one_canonical_table.ensures c.args.core.now limits c.loop-step._step here.0 raw c.loop-step.complemented here.1
    (c.loop-step.invariant limits raw is)

pub returns : goal.returns
returns c limits raw is =
    let all : c.loop-step._step ≡ length c.args.core.now.steps = omega arith in
    subst (λ n. IsVerdictGoal c.args.core.now limits n raw c.loop-step.complemented) all (c.loop-step.invariant limits raw is)
