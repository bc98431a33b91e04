use Rattle.std.proofs.Common.{◌≡◌, ◌+◌, ◌-◌, subst, arith}
use Rattle.dcv_build.specs.Tasks.{TurnFrom}
use Rattle.dcv_build.proofs.Turning.{last_of_all, more_turn}
use Rattle.dcv_build.proofs.tasks.last_operator.Goals as goal

pub loop-step-preserved : goal.loop-step-preserved
loop-step-preserved c =
    let place = c.loop-step.step - 1 in
    let same : c.loop-step.step ≡ place + 1 = omega (arith, c.loop-step-test.true) in
    more_turn c.args.core.now place c.in-Not.field-0 c.in-Not.ensures (subst (TurnFrom c.args.core.now) same c.loop-step.invariant)

pub returns-clause-within : goal.returns-clause-within
returns-clause-within c = (last_of_all c.args.core.now c.requires).0

pub returns-clause-operator : goal.returns-clause-operator
returns-clause-operator c = (last_of_all c.args.core.now c.requires).1
