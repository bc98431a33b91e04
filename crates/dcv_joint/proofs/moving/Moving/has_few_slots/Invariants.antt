use Rattle.std.proofs.Common.{◌≡◌, drop}
use Rattle.dcv_joint.specs.Faults.{has_few_slots}
use Rattle.dcv_joint.proofs.moving.Moving.has_few_slots.Given as goal

-- it is so of all steps where it is so of those that are left
abbrev pub invariant-loop-step : goal.invariant-loop-step
invariant-loop-step l = has_few_slots l.self.places.now l.self.width (drop l.step l.core.steps) ≡ has_few_slots l.self.places.now l.self.width l.core.steps
