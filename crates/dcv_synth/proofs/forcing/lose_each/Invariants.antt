use Rattle.std.proofs.Common.{drop}
use Rattle.dcv_synth.proofs.Losing.{IsLosing}
use Rattle.dcv_synth.proofs.forcing.lose_each.Given as goal

abbrev pub invariant-loop-state : goal.invariant-loop-state
invariant-loop-state l = IsLosing l.initial.lost.items l.states l.lost.items (drop l.state-index l.states)
