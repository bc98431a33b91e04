use Rattle.std.proofs.Common.{◌≡◌, drop}
use Rattle.dcv_tracks.proofs.GoalSteps.{bound_among}
use Rattle.dcv_tracks.proofs.bound.bound_shift_of.Given as goal

-- the steps that are left say what all of them do
abbrev pub invariant-loop-step : goal.invariant-loop-step
invariant-loop-step l = bound_among l.goal.declared (drop l.step l.goal.steps) ≡ bound_among l.goal.declared l.goal.steps
