use Rattle.std.proofs.Common.{◌≡◌, ◌≤◌, length, map, drop, []}
use Rattle.dcv_tracks.specs.Shifting.{most_shifts}
use Rattle.dcv_tracks.specs.ShiftViews.{plain_shift}
use Rattle.dcv_tracks.proofs.GoalSteps.{collected_in}
use Rattle.dcv_tracks.proofs.gathering.shifts_of.Given as goal

-- with those of the steps that are left they are all
abbrev pub invariant-loop-step : goal.invariant-loop-step
invariant-loop-step l = record {
  few : length l.shifts.items ≤ most_shifts;
  left : collected_in (map plain_shift l.shifts.items) (drop l.step l.goal.steps) ≡ collected_in [] l.goal.steps;
}
