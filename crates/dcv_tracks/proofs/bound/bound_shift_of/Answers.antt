use Rattle.std.proofs.Common.{◌≡◌, ◌+◌, drop, sym, ap, ◌∙◌, arith}
use Rattle.std.specs.Option.{option_or}
use Rattle.std.proofs.lemmas.List.{at_drop_all}
use Rattle.dcv_core.specs.StepViews.{plain_op}
use Rattle.dcv_core.specs.TruthViews.{plain_truth}
use Rattle.dcv_tracks.specs.Shifting.{bound_in}
use Rattle.dcv_tracks.specs.Shifting.{bound_by}
use Rattle.dcv_tracks.proofs.GoalSteps.{bound_among, bound_next, bound_steps, found_truth}
use Rattle.dcv_tracks.proofs.bound.bound_shift_of.Goals.{in-Some+in_default-bound_within, in_default}
use Rattle.dcv_tracks.proofs.bound.bound_shift_of.Goals as goal

pub returns-in-Some-bound_within : goal.returns-in-Some-bound_within
returns-in-Some-bound_within c tree of =
    let goal = c.args.goal.now in
    let step = c.loop-step.step in
    let rest = bound_among goal.declared (drop (step + 1) goal.steps) in
    let next = bound_next goal.declared goal.steps step (plain_op c.op.result) (found_truth c.proposition.result) c.op.ensures c.proposition.ensures in
    let here : bound_in goal.declared (plain_truth c.in-Some.truth.now) ≡ c.bound_within.result =
    sym (c.bound_within.ensures ∙ ap (λ k. bound_in k (plain_truth c.in-Some.truth.now)) c.declared.ensures) in
    sym (ap (λ found. option_or (bound_by goal.declared (found_truth found)) rest) c.in-Some.is
    ∙ ap (λ first. option_or first rest) (here ∙ c.in-Some-bound_within.is))
    ∙ sym next ∙ c.loop-step.invariant ∙ ap (bound_among goal.declared) of ∙ bound_steps goal.declared tree 0 goal.declared

pub loop-step-preserved : goal.loop-step-preserved
loop-step-preserved c =
    let goal = c.args.goal.now in
    let step = c.loop-step.step in
    let rest = bound_among goal.declared (drop (step + 1) goal.steps) in
    let next = bound_next goal.declared goal.steps step (plain_op c.op.result) (found_truth c.proposition.result) c.op.ensures c.proposition.ensures in
    elim c.match-proposition.branch [
      | in-Some+in_default-bound_within w ↦
          let here : bound_in goal.declared (plain_truth w.in-Some.truth.now) ≡ w.bound_within.result =
          sym (w.bound_within.ensures ∙ ap (λ k. bound_in k (plain_truth w.in-Some.truth.now)) w.declared.ensures) in
          sym (ap (λ found. option_or (bound_by goal.declared (found_truth found)) rest) w.in-Some.is
          ∙ ap (λ first. option_or first rest) (here ∙ w.in_default-bound_within.is))
          ∙ sym next ∙ c.loop-step.invariant
      | in_default w ↦ sym (ap (λ found. option_or (bound_by goal.declared (found_truth found)) rest) w.in_default.is) ∙ sym next ∙ c.loop-step.invariant
    ]

pub returns : goal.returns
returns c tree of =
    let goal = c.args.goal.now in
    sym (at_drop_all (bound_among goal.declared) goal.steps c.loop-step.step (omega arith))
    ∙ c.loop-step.invariant ∙ ap (bound_among goal.declared) of ∙ bound_steps goal.declared tree 0 goal.declared
