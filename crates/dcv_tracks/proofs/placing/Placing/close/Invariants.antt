use Rattle.std.proofs.Common.{◌≡◌, ◌+◌, ◌*◌, ◌≤◌, length, map, drop}
use Rattle.dcv_tracks.specs.ShiftViews.{plain_shift}
use Rattle.dcv_tracks.specs.ShiftSteps.{with_steps, closed_steps}
use Rattle.dcv_tracks.proofs.placing.Placing.close.Given as goal

-- the shifts from this place on are closed
abbrev pub invariant-loop-place : goal.invariant-loop-place
invariant-loop-place l = record {
  within : l.place ≤ length l.self.shifts.now;
  size : length l.core.steps + 3 * l.place ≡ length l.fn.core.steps + 3 * length l.self.shifts.now;
  closed : l.core ≡ with_steps l.fn.core (closed_steps l.self.declared (map plain_shift l.self.shifts.now) (l.self.declared + l.place)
      (map plain_shift (drop l.place l.self.shifts.now)) l.fn.core.steps);
}
