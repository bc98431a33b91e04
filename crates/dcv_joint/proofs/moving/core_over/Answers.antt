use Rattle.std.proofs.Common.{◌∙◌, ap}
use Rattle.dcv_core.specs.Steps.{PlainCore}
use Rattle.dcv_joint.proofs.MovedSteps.{core_moved}
use Rattle.dcv_joint.proofs.moving.core_over.Goals as goal

pub returns-clause-core : goal.returns-clause-core
returns-clause-core c tree of =
    let declared = ap (λ (core : PlainCore). core.declared) c.in_ok-add_steps.ensures ∙ ap (λ (core : PlainCore). core.declared) c.new-moved.ensures in
    let steps = ap (λ (core : PlainCore). core.steps) c.in_ok-add_steps.ensures in
    core_moved c.args.places.now c.args.width c.args.core.now.declared _ tree c.args.core.now.steps _ c.requires.declared declared of steps
