use Rattle.dcv_build.specs.Tasks.{TurnFrom}
use Rattle.dcv_build.proofs.tasks.last_operator.Given as goal

-- all steps from the last one that was seen on are complements
abbrev pub invariant-loop-step : goal.invariant-loop-step
invariant-loop-step l = TurnFrom l.core l.step
