use Rattle.std.proofs.Common.{◌-◌}
use Rattle.dcv_certificate.proofs.partition.Partition.+walk.Given as goal

abbrev pub decreases-walk : goal.decreases-walk
decreases-walk l = l.scratch.now.slots - l.slot
