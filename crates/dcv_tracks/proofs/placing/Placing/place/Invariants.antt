use Rattle.std.proofs.Common.{◌≡◌, ◌+◌, ◌++◌, length, map, drop}
use Rattle.dcv_tracks.specs.ShiftSteps.{placed_step}
use Rattle.dcv_tracks.specs.ShiftViews.{plain_shift}
use Rattle.dcv_tracks.proofs.placing.Placing.place.Given as goal

-- those so far and those to come are all of them
abbrev pub invariant-loop-step : goal.invariant-loop-step
invariant-loop-step l = record {
  declared : l.core.declared ≡ l.fn.core.declared;
  size : length l.core.steps ≡ length l.fn.core.steps + l.step;
  left : l.core.steps ++ map (placed_step l.self.declared (map plain_shift l.self.shifts.now)) (drop l.step l.goal.steps)
      ≡ l.fn.core.steps ++ map (placed_step l.self.declared (map plain_shift l.self.shifts.now)) l.goal.steps;
}
