use Rattle.std.proofs.Common.{◌≡◌, ◌++◌, [], ◌∷◌, length, ap, ◌∙◌, arith, length-append}
use Rattle.dcv_core.specs.Steps.{PlainCore}
use Rattle.dcv_joint.specs.Moved.{moved_step}
use Rattle.dcv_tracks.proofs.PlacedSteps.{found, next_placed}
use Rattle.dcv_joint.proofs.moving.Moving.add_steps.Goals as goal

pub loop-step-preserved : goal.loop-step-preserved
loop-step-preserved c =
    let core = c.args.core.now in
    let before = c.loop-step.moved in
    let after = c.add_step.new.moved in
    let move = moved_step c.args.self.now.places.now c.args.self.now.width in
    let here = found core.steps c.loop-step.step (omega arith) in
    let added = c.in_ok-add_step.ensures here.step here.is in
    let steps : after.steps ≡ before.steps ++ move here.step ∷ [] = ap (λ (core : PlainCore). core.steps) added in
    record {
      declared = ap (λ (core : PlainCore). core.declared) added ∙ c.loop-step.invariant.declared;
      size = omega (arith, ap length steps, length-append before.steps (move here.step ∷ []), c.loop-step.invariant.size);
      left = next_placed move core.steps before.steps after.steps _ c.loop-step.step here.step here.left steps c.loop-step.invariant.left;
    }
