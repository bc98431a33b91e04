use Rattle.std.proofs.Common.{◌≡◌, ◌+◌, ◌<◌, length, map, drop, sym, ap, subst, ◌∙◌, arith}
use Rattle.std.specs.Result.{IfOk, IfErr}
use Rattle.dcv_core.proofs.TruthRows.{is_joined}
use Rattle.dcv_core.specs.TruthViews.{plain_truth, truths_of}
use Rattle.dcv_tracks.specs.declared.gathering.GatherFault.TheVariants.{TooMany}
use Rattle.dcv_tracks.specs.Shifting.{collected, all_collected, most_shifts}
use Rattle.dcv_tracks.specs.ShiftViews.{plain_shift}
use Rattle.dcv_tracks.proofs.GoalSteps.{all_collected-grows, next_is, as_before}
use Rattle.dcv_tracks.proofs.gathering.+gather.Goals as goal

pub gather_all-returns-in_err-gather-clause-too_many : goal.gather_all-returns-in_err-gather-clause-too_many
gather_all-returns-in_err-gather-clause-too_many t c =
    let here = map plain_shift c.loop-truth.shifts.items in
    let truths = c.args.truths.now in
    let place = c.loop-truth.truth-index in
    let truth = c.truth-item.result in
    let rest = truths_of (map plain_truth (drop (place + 1) truths)) in
    let whole = all_collected (map plain_shift c.args.shifts.now.items) (truths_of (map plain_truth truths)) in
    let left : all_collected (collected here (plain_truth truth)) rest ≡ whole =
    sym (ap (λ ps. all_collected here (truths_of ps)) (next_is truths place truth c.loop-truth-test.true c.truth-item.is)) ∙ c.loop-truth.invariant.left in
    as_before (λ fault. fault ≡ TooMany → most_shifts < length whole) c.from_residual.result c.in_err-gather.field-0.0 c.from_residual.ensures.1
    (λ is. omega (arith, c.in_err-gather.ensures.too_many is, all_collected-grows rest (collected here (plain_truth truth)), ap length left))

pub gather-returns-in-Joined-clause-ok : goal.gather-returns-in-Joined-clause-ok
gather-returns-in-Joined-clause-ok t c = subst (λ p. IfOk c.gather_all.result (λ _. map plain_shift c.gather_all.new.shifts.items ≡ collected (map plain_shift c.args.shifts.now.items) p))
    (sym (is_joined _ _ c.in-Joined.is c.deref-in-Joined.ensures.value)) c.gather_all.ensures.ok

pub gather-returns-in-Joined-clause-too_many : goal.gather-returns-in-Joined-clause-too_many
gather-returns-in-Joined-clause-too_many t c = subst (λ p. IfErr c.gather_all.result (λ fault. fault ≡ TooMany → most_shifts < length (collected (map plain_shift c.args.shifts.now.items) p)))
    (sym (is_joined _ _ c.in-Joined.is c.deref-in-Joined.ensures.value)) c.gather_all.ensures.too_many
