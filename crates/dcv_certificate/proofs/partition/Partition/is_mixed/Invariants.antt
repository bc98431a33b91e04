use Rattle.std.proofs.Common.{length, take}
use Rattle.dcv_certificate.specs.Tallies.{IsTally, tallied, was_met}
use Rattle.dcv_certificate.proofs.partition.Partition.is_mixed.Given as goal

abbrev pub invariant-loop-state : goal.invariant-loop-state
invariant-loop-state l = IsTally (length l.self.blocks.items) l.self.blocks.items (tallied l.tally) (was_met l.tally) (take l.state-index l.marks)
