use Rattle.std.proofs.Common.{◌≡◌, ◌++◌, length, map, ap, ◌∙◌, arith}
use Rattle.std.proofs.lemmas.List.{length-map}
use Rattle.dcv_core.specs.Steps.{PlainCore}
use Rattle.dcv_tracks.specs.ShiftViews.{plain_shift}
use Rattle.dcv_tracks.specs.ShiftSteps.{with_steps, placed_step, closed_steps}
use Rattle.dcv_tracks.proofs.ClosingSteps.{goal_closed, some_steps}
use Rattle.dcv_tracks.proofs.placing.core_of.Goals.{then-steps-gt0+in_ok-close, else-steps-gt0}
use Rattle.dcv_tracks.proofs.placing.core_of.Goals as goal

pub returns-clause-core : goal.returns-clause-core
returns-clause-core c tree of =
    let goal = c.args.goal.now in
    let all = map plain_shift c.args.shifts.now in
    let k = c.declared.result in
    let core = c.if-steps-gt0.core in
    let placed = c.place.new.core in
    let steps : placed.steps ≡ map (placed_step k all) goal.steps =
    ap (λ (core : PlainCore). core.steps) c.in_ok-place.ensures ∙ ap (λ (core : PlainCore). core.steps ++ map (placed_step k all) goal.steps) c.new-core.ensures in
    let declared : placed.declared ≡ goal.declared =
    ap (λ (core : PlainCore). core.declared) c.in_ok-place.ensures ∙ ap (λ (core : PlainCore). core.declared) c.new-core.ensures ∙ c.declared-2.ensures in
    elim c.if-steps-gt0.branch [
      | then-steps-gt0+in_ok-close w ↦
          let closed : core ≡ with_steps placed (closed_steps k all k all placed.steps) = w.core-is ∙ w.in_ok-close.ensures in
          goal_closed k goal.declared core.declared all goal.steps core.steps tree c.declared.ensures
          (ap (λ (core : PlainCore). core.declared) closed ∙ declared) of
          (ap (λ (core : PlainCore). core.steps) closed ∙ ap (closed_steps k all k all) steps)
      | else-steps-gt0 w ↦
          absurd (omega (arith, some_steps goal.declared goal.steps tree of, w.if-steps-gt0.false, c.steps.ensures, ap length steps, length-map goal.steps (placed_step k all)))
    ]
