use Rattle.std.proofs.Common.{◌≡◌}
use Rattle.dcv_build.specs.Building.{IsBuilding}
use Rattle.dcv_build.proofs.building.Building.take_steps.Given as goal

abbrev pub invariant-loop-step : goal.invariant-loop-step
invariant-loop-step l = record {
  limits : l.self.known.limits ≡ l.fn.self.known.limits;
  is : IsBuilding l.core l.step l.self;
}
