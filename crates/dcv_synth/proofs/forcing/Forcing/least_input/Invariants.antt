use Rattle.std.proofs.Common.{◌-◌}
use Rattle.dcv_synth.proofs.Descents.{IsDescent}
use Rattle.dcv_synth.proofs.forcing.Forcing.least_input.Given as goal

abbrev pub invariant-loop-slot : goal.invariant-loop-slot
invariant-loop-slot l = IsDescent l.self.inputs (l.self.arena.now.slots - l.self.inputs) l.self.arena.now l.self.lost.items l.fn.root l.slot l.input l.current
