use Rattle.std.proofs.Common.{◌≡◌, ◌≤◌, ◌-◌, ◌++◌, length, map, drop}
use Rattle.dcv_core.specs.Slots.{AreBelow}
use Rattle.dcv_core.specs.TruthViews.{plain_truth, truths_of}
use Rattle.dcv_tracks.specs.Shifting.{placed}
use Rattle.dcv_tracks.specs.ShiftViews.{plain_shift}
use Rattle.dcv_tracks.proofs.PlacedSteps.{parts, all_parts}
use Rattle.dcv_tracks.proofs.placing.Placing.+placed.Given as goal

-- those so far and those to come are all of them
abbrev pub invariant-truths-loop-truth : goal.invariant-truths-loop-truth
invariant-truths-loop-truth l = record {
  below : AreBelow (256 - length l.self.shifts.now) (truths_of (map plain_truth (drop l.truth-index l.truths)));
  fewer : all_parts (truths_of (map plain_truth (drop l.truth-index l.truths))) ≤ all_parts (truths_of (map plain_truth l.truths));
  left : map plain_truth l.all.items ++ map (placed l.self.declared (map plain_shift l.self.shifts.now)) (map plain_truth (drop l.truth-index l.truths))
      ≡ map (placed l.self.declared (map plain_shift l.self.shifts.now)) (map plain_truth l.truths);
}

-- each call goes on with a part
abbrev pub decreases-truth : goal.decreases-truth
decreases-truth l = parts (plain_truth l.truth.now)

abbrev pub decreases-truths : goal.decreases-truths
decreases-truths l = all_parts (truths_of (map plain_truth l.truths.now))
