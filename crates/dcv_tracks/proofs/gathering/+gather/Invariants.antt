use Rattle.std.proofs.Common.{◌≡◌, ◌≤◌, length, map, drop}
use Rattle.dcv_core.specs.TruthViews.{plain_truth, truths_of}
use Rattle.dcv_tracks.specs.Shifting.{all_collected, most_shifts}
use Rattle.dcv_tracks.specs.ShiftViews.{plain_shift}
use Rattle.dcv_tracks.proofs.gathering.+gather.Given as goal

-- with those of what is left they are all
abbrev pub invariant-gather_all-loop-truth : goal.invariant-gather_all-loop-truth
invariant-gather_all-loop-truth l = record {
  few : length l.shifts.items ≤ most_shifts;
  left : all_collected (map plain_shift l.shifts.items) (truths_of (map plain_truth (drop l.truth-index l.truths)))
      ≡ all_collected (map plain_shift l.fn.shifts.items) (truths_of (map plain_truth l.truths));
}
