use Rattle.std.proofs.Common.{◌≡◌, ◌≤◌, ◌+◌, ◌-◌, ◌++◌, length, map, drop}
use Rattle.dcv_core.specs.Slots.{AreBelow}
use Rattle.dcv_core.specs.TruthViews.{plain_truth, truths_of}
use Rattle.dcv_joint.specs.Moved.{moved_truth}
use Rattle.dcv_tracks.proofs.PlacedSteps.{parts, all_parts}
use Rattle.dcv_joint.proofs.moving.+moved.Given as goal

-- those so far and those to come are all of them
abbrev pub invariant-all_moved-loop-truth : goal.invariant-all_moved-loop-truth
invariant-all_moved-loop-truth l = record {
  below : AreBelow (length l.moving.places.now + 256 - l.moving.width) (truths_of (map plain_truth (drop l.truth-index l.truths)));
  fewer : all_parts (truths_of (map plain_truth (drop l.truth-index l.truths))) ≤ all_parts (truths_of (map plain_truth l.truths));
  left : map plain_truth l.all.items ++ map (moved_truth l.moving.places.now l.moving.width) (map plain_truth (drop l.truth-index l.truths))
      ≡ map (moved_truth l.moving.places.now l.moving.width) (map plain_truth l.truths);
}

-- each call goes on with a part
abbrev pub decreases-moved_truth : goal.decreases-moved_truth
decreases-moved_truth l = parts (plain_truth l.truth.now)

abbrev pub decreases-all_moved : goal.decreases-all_moved
decreases-all_moved l = all_parts (truths_of (map plain_truth l.truths.now))
