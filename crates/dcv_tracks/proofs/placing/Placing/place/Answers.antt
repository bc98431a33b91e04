use Rattle.std.proofs.Common.{◌≡◌, ◌++◌, List, [], ◌∷◌, length, map, sym, ap, ◌∙◌, arith, append-nil, length-append}
use Rattle.std.proofs.lemmas.List.{at_drop_all}
use Rattle.dcv_core.specs.Steps.{CoreStep, PlainCore}
use Rattle.dcv_tracks.specs.ShiftViews.{plain_shift}
use Rattle.dcv_tracks.specs.ShiftSteps.{placed_step}
use Rattle.dcv_tracks.proofs.PlacedSteps.{found, next_placed}
use Rattle.dcv_tracks.proofs.placing.Placing.place.Goals as goal

pub loop-step-preserved : goal.loop-step-preserved
loop-step-preserved c =
    let goal = c.args.goal.now in
    let before = c.loop-step.core in
    let after = c.place_step.new.core in
    let place = placed_step c.args.self.now.declared (map plain_shift c.args.self.now.shifts.now) in
    let here = found goal.steps c.loop-step.step (omega arith) in
    let added = c.in_ok-place_step.ensures here.step here.is in
    let steps : after.steps ≡ before.steps ++ place here.step ∷ [] = ap (λ (core : PlainCore). core.steps) added in
    record {
      declared = ap (λ (core : PlainCore). core.declared) added ∙ c.loop-step.invariant.declared;
      size = omega (arith, ap length steps, length-append before.steps (place here.step ∷ []), c.loop-step.invariant.size);
      left = next_placed place goal.steps before.steps after.steps _ c.loop-step.step here.step here.left steps c.loop-step.invariant.left;
    }

pub returns : goal.returns
returns c =
    let goal = c.args.goal.now in
    let core = c.loop-step.core in
    let place = placed_step c.args.self.now.declared (map plain_shift c.args.self.now.shifts.now) in
    let steps : core.steps ≡ c.args.core.now.steps ++ map place goal.steps =
    sym (append-nil core.steps)
    ∙ sym (at_drop_all (λ (left : List CoreStep). core.steps ++ map place left) goal.steps c.loop-step.step (omega arith))
    ∙ c.loop-step.invariant.left in
    λ i. record { declared = c.loop-step.invariant.declared i; steps = steps i }
