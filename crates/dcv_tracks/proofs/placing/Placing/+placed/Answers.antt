use Rattle.std.proofs.Common.{◌≡◌, ◌-◌, ◌++◌, List, length, map, sym, ap, subst, ◌∙◌, arith, append-nil}
use Rattle.std.proofs.lemmas.List.{at_drop_all}
use Rattle.dcv_core.specs.declared.truths.Truth.{Truth}
use Rattle.dcv_core.specs.Core.{TruthNot, TruthJoined}
use Rattle.dcv_core.specs.Slots.{IsBelow, AreBelow}
use Rattle.dcv_core.specs.TruthViews.{plain_truth, truths_of}
use Rattle.dcv_core.proofs.TruthRows.{truth_joined, is_joined}
use Rattle.dcv_tracks.specs.Shifting.{placed}
use Rattle.dcv_tracks.specs.ShiftViews.{plain_shift}
use Rattle.dcv_tracks.proofs.GoalSteps.{next_is}
use Rattle.dcv_tracks.proofs.PlacedSteps.{parts, all_parts, truths_placed}
use Rattle.dcv_tracks.proofs.placing.Placing.+placed.Goals as goal

pub truth-truth-requires : goal.truth-truth-requires
truth-truth-requires t c =
    let same : plain_truth c.args.truth.now ≡ TruthNot (plain_truth c.deref.result.now) =
    ap plain_truth c.in-Not.is ∙ ap (λ (truth : Truth). TruthNot (plain_truth truth)) (sym c.deref.ensures) in
    (omega (arith, ap parts same), (c.requires.declared, subst (IsBelow (256 - length c.args.self.now.shifts.now)) same c.requires.below))

pub truth-truths-requires : goal.truth-truths-requires
truth-truths-requires t c =
    let same = is_joined _ _ c.in-Joined.is c.deref-in-Joined.ensures.value in
    (omega (arith, ap parts same), (c.requires.declared, subst (IsBelow (256 - length c.args.self.now.shifts.now)) same c.requires.below))

pub truth-returns-in_ok-truths-in-Joined : goal.truth-returns-in_ok-truths-in-Joined
truth-returns-in_ok-truths-in-Joined t c =
    let connective = c.in-Joined.connective in
    truth_joined connective c.in_ok-truths-in-Joined.field-0
    ∙ ap (TruthJoined connective) c.in_ok-truths-in-Joined.ensures
    ∙ sym (ap (placed c.args.self.now.declared (map plain_shift c.args.self.now.shifts.now)) (is_joined _ _ c.in-Joined.is c.deref-in-Joined.ensures.value))

pub truths-truth-requires : goal.truths-truth-requires
truths-truth-requires t c =
    let next = next_is c.args.truths.now c.loop-truth.truth-index c.truth-item.result c.loop-truth-test.true c.truth-item.is in
    let below = subst (λ ps. AreBelow (256 - length c.args.self.now.shifts.now) (truths_of ps)) next c.loop-truth.invariant.below in
    (omega (arith, ap (λ ps. all_parts (truths_of ps)) next, c.loop-truth.invariant.fewer), (c.requires.declared, below.0))

pub truths-returns : goal.truths-returns
truths-returns t c =
    let all = map plain_shift c.args.self.now.shifts.now in
    let k = c.args.self.now.declared in
    let truths = c.args.truths.now in
    ap truths_of (sym (append-nil (map plain_truth c.loop-truth.all.items))
    ∙ sym (at_drop_all (λ (left : List Truth). map plain_truth c.loop-truth.all.items ++ map (placed k all) (map plain_truth left)) truths c.loop-truth.truth-index c.loop-truth-test.false)
    ∙ c.loop-truth.invariant.left)
    ∙ truths_placed k all (map plain_truth truths)
