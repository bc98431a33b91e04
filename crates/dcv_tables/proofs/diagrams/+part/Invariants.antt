use Rattle.std.proofs.Common.{◌-◌}
use Rattle.dcv_tables.proofs.diagrams.+part.Given as goal

-- each call begins at the next slot
abbrev pub decreases-part : goal.decreases-part
decreases-part l = l.arena.now.slots - l.slot
