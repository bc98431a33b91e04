use Rattle.std.proofs.Common.{◌≡◌, ◌++◌, length, map, drop}
use Rattle.dcv_joint.specs.Moved.{moved_step}
use Rattle.dcv_joint.proofs.moving.Moving.add_steps.Given as goal

-- those so far and those to come are all of them
abbrev pub invariant-loop-step : goal.invariant-loop-step
invariant-loop-step l = record {
  declared : l.moved.declared ≡ l.fn.moved.declared;
  size : length l.moved.steps ≡ l.step;
  left : l.moved.steps ++ map (moved_step l.self.places.now l.self.width) (drop l.step l.core.steps) ≡ map (moved_step l.self.places.now l.self.width) l.core.steps;
}
