use Rattle.dcv_explore.specs.declared.explorer.Limits.{Limits}
use Rattle.dcv_build.specs.Building.{IsGoal}
use Rattle.dcv_build.proofs.building.turn.Given as goal

-- what was built before is built further
abbrev pub invariant-loop-step : goal.invariant-loop-step
invariant-loop-step l = (limits : Limits) → IsGoal l.core limits l.from l.fn.first l.fn.counts.items → IsGoal l.core limits l.step l.auto' l.counts.items
