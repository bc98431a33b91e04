use Rattle.std.proofs.Common.{◌++◌, ◌+◌, ◌-◌, List, length, subst, arith, map, sym, ap, ◌∙◌, append-nil}
use Rattle.std.proofs.lemmas.List.{at_drop_all}
use Rattle.dcv_core.specs.declared.truths.Truth.{Truth}
use Rattle.dcv_core.specs.Core.{TruthJoined}
use Rattle.dcv_core.specs.Slots.{IsBelow}
use Rattle.dcv_core.specs.TruthViews.{plain_truth, truths_of}
use Rattle.dcv_core.proofs.TruthRows.{truth_joined, is_joined}
use Rattle.dcv_tracks.proofs.PlacedSteps.{parts}
use Rattle.dcv_joint.specs.Moved.{moved_truth}
use Rattle.dcv_joint.proofs.MovedSteps.{truths_moved}
use Rattle.dcv_joint.proofs.moving.+moved.Goals as goal

pub all_moved-returns : goal.all_moved-returns
all_moved-returns t c =
    let move = moved_truth c.args.moving.now.places.now c.args.moving.now.width in
    let truths = c.args.truths.now in
    ap truths_of (sym (append-nil (map plain_truth c.loop-truth.all.items))
    ∙ sym (at_drop_all (λ (left : List Truth). map plain_truth c.loop-truth.all.items ++ map move (map plain_truth left)) truths c.loop-truth.truth-index c.loop-truth-test.false)
    ∙ c.loop-truth.invariant.left)
    ∙ truths_moved c.args.moving.now.places.now c.args.moving.now.width (map plain_truth truths)

pub moved_truth-returns-in_ok-all_moved-in-Joined : goal.moved_truth-returns-in_ok-all_moved-in-Joined
moved_truth-returns-in_ok-all_moved-in-Joined t c =
    let connective = c.in-Joined.connective in
    truth_joined connective c.in_ok-all_moved-in-Joined.field-0
    ∙ ap (TruthJoined connective) c.in_ok-all_moved-in-Joined.ensures
    ∙ sym (ap (moved_truth c.args.moving.now.places.now c.args.moving.now.width) (is_joined _ _ c.in-Joined.is c.deref-in-Joined.ensures.value))

pub moved_truth-all_moved-requires : goal.moved_truth-all_moved-requires
moved_truth-all_moved-requires t c =
    let same = is_joined _ _ c.in-Joined.is c.deref-in-Joined.ensures.value in
    (omega (arith, ap parts same), subst (IsBelow (length c.args.moving.now.places.now + 256 - c.args.moving.now.width)) same c.requires)
