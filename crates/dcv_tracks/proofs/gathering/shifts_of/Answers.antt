use Rattle.std.proofs.Common.{◌≡◌, ◌+◌, ◌<◌, [], Vec, Global, length, map, drop, sym, ap, ◌∙◌, arith}
use Rattle.std.proofs.lemmas.List.{at_drop_all}
use Rattle.dcv_core.specs.Core.{CoreTree}
use Rattle.dcv_core.specs.Steps.{IsCoreOf}
use Rattle.dcv_core.specs.StepViews.{plain_op}
use Rattle.dcv_core.specs.TruthViews.{plain_truth}
use Rattle.dcv_tracks.specs.declared.gathering.Shift.{Shift}
use Rattle.dcv_tracks.specs.declared.gathering.GatherFault.TheVariants.{TooMany}
use Rattle.dcv_tracks.specs.Shifting.{collected, shifts_in, most_shifts}
use Rattle.dcv_tracks.specs.ShiftViews.{plain_shift}
use Rattle.dcv_tracks.specs.Shifting.{collected_by}
use Rattle.dcv_tracks.proofs.GoalSteps.{collected_in, collected_in-grows, collected_next, collected_steps, found_truth, as_before}
use Rattle.dcv_tracks.proofs.gathering.shifts_of.Goals.{in-Some+in_ok-gather, in_default}
use Rattle.dcv_tracks.proofs.gathering.shifts_of.Goals as goal

pub returns-in_err-gather-clause-too_many : goal.returns-in_err-gather-clause-too_many
returns-in_err-gather-clause-too_many c =
    let here = map plain_shift c.loop-step.shifts.items in
    let goal = c.args.goal.now in
    let step = c.loop-step.step in
    let truth = plain_truth c.in-Some.truth.now in
    let next = collected_next here goal.steps step (plain_op c.op.result) (found_truth c.proposition.result) c.op.ensures c.proposition.ensures in
    let rest = drop (step + 1) goal.steps in
    let left : collected_in (collected here truth) rest ≡ collected_in [] goal.steps =
    sym (ap (λ found. collected_in (collected_by here (found_truth found)) rest) c.in-Some.is) ∙ sym next ∙ c.loop-step.invariant.left in
    as_before (λ fault. fault ≡ TooMany → (tree : CoreTree) → IsCoreOf tree goal → most_shifts < length (shifts_in tree))
    c.from_residual.result c.in_err-gather.field-0.0 c.from_residual.ensures.1
    (λ is tree of. omega (
      arith,
      c.in_err-gather.ensures.too_many is,
      collected_in-grows rest (collected here truth),
      ap length (left ∙ ap (collected_in []) of ∙ collected_steps tree 0 goal.declared []),
    ))

pub loop-step-preserved : goal.loop-step-preserved
loop-step-preserved c =
    let here = map plain_shift c.loop-step.shifts.items in
    let goal = c.args.goal.now in
    let step = c.loop-step.step in
    let next = collected_next here goal.steps step (plain_op c.op.result) (found_truth c.proposition.result) c.op.ensures c.proposition.ensures in
    let rest = drop (step + 1) goal.steps in
    elim c.match-proposition.branch [
      | in-Some+in_ok-gather w ↦
          let there : map plain_shift c.match-proposition.shifts.items ≡ collected here (plain_truth w.in-Some.truth.now) =
          ap (λ (shifts : Vec Shift Global). map plain_shift shifts.items) w.shifts-is ∙ w.in_ok-gather.ensures.ok in
          record {
            few = omega (arith, w.in_ok-gather.ensures.few, ap (λ (shifts : Vec Shift Global). length shifts.items) w.shifts-is);
            left = ap (λ seen. collected_in seen rest) there ∙ sym (ap (λ found. collected_in (collected_by here (found_truth found)) rest) w.in-Some.is)
                ∙ sym next ∙ c.loop-step.invariant.left;
          }
      | in_default w ↦ record {
        few = omega (arith, c.loop-step.invariant.few, ap (λ (shifts : Vec Shift Global). length shifts.items) w.shifts-is);
        left = ap (λ (shifts : Vec Shift Global). collected_in (map plain_shift shifts.items) rest) w.shifts-is
            ∙ sym (ap (λ found. collected_in (collected_by here (found_truth found)) rest) w.in_default.is) ∙ sym next ∙ c.loop-step.invariant.left;
      }
    ]

pub returns-clause-shifts : goal.returns-clause-shifts
returns-clause-shifts c tree of =
    let goal = c.args.goal.now in
    sym (at_drop_all (collected_in (map plain_shift c.loop-step.shifts.items)) goal.steps c.loop-step.step (omega arith))
    ∙ c.loop-step.invariant.left ∙ ap (collected_in []) of ∙ collected_steps tree 0 goal.declared []
