use Rattle.std.proofs.Common.{◌≡◌, IfErr, subst, ◌∙◌, arith}
use Rattle.dcv_core.specs.Steps.{steps_of}
use Rattle.dcv_explore.specs.declared.explorer.Limits.{Limits}
use Rattle.dcv_build.specs.Budget.{IsFaultOver}
use Rattle.dcv_build.specs.Building.{IsBuilding}
use Rattle.dcv_build.proofs.FaultFacts.{handed_on}
use Rattle.dcv_build.proofs.Moves.{still_building, pushes}
use Rattle.dcv_build.proofs.building.Building.take_steps.Goals as goal

pub make_room-requires : goal.make_room-requires
make_room-requires c = c.loop-step.invariant.is.there

pub take_step-requires-clause-built : goal.take_step-requires-clause-built
take_step-requires-clause-built c =
    still_building c.args.core.now c.loop-step.step c.loop-step.self c.make_room.new.self c.loop-step.invariant.is c.make_room.ensures.limits c.make_room.ensures.counts
    c.in_ok-make_room.ensures.there c.in_ok-make_room.ensures.waiting

pub push-requires-clause-goes : goal.push-requires-clause-goes
push-requires-clause-goes c =
    pushes c.args.core.now c.loop-step.step c.make_room.new.self c.take_step.new.self c.take_step.result c.in_ok-answer.answer c.in_ok-answer.was c.take_step.ensures.limits c.take_step.ensures.counts
    c.take_step.ensures.goes

pub returns-in_err-answer-clause-over : goal.returns-in_err-answer-clause-over
returns-in_err-answer-clause-over c tree is =
    subst (λ (l : Limits). IfErr c.from_residual-in_err-answer.result (IsFaultOver (steps_of c.args.core.now.declared tree) l)) (c.make_room.ensures.limits ∙ c.loop-step.invariant.limits)
    (handed_on _ c.take_step.result _ c.from_residual-in_err-answer.result (c.take_step.ensures.goes tree is).over c.in_err-answer.was c.from_residual-in_err-answer.ensures.1)

pub returns-clause-built : goal.returns-clause-built
returns-clause-built c =
    let all : c.loop-step.step ≡ c.args.end = omega arith in
    subst (λ n. IsBuilding c.args.core.now n c.loop-step.self) all c.loop-step.invariant.is
