use Rattle.std.proofs.Common.{false}
use Rattle.dcv_dfa.specs.Raw.{RawValue}
use Rattle.dcv_explore.specs.declared.explorer.Limits.{Limits}
use Rattle.dcv_build.specs.Building.{IsVerdictGoal}
use Rattle.dcv_build.proofs.building.is_complemented.Given as goal

-- what was explored stands for the steps so far
abbrev pub invariant-loop-step : goal.invariant-loop-step
invariant-loop-step l = (limits : Limits) (raw : RawValue) → IsVerdictGoal l.core limits l.from raw false → IsVerdictGoal l.core limits l._step raw l.complemented
