use Rattle.std.proofs.Common.{◌-◌}
use Rattle.dcv_arena.specs.Arena.{level_of}
use Rattle.dcv_certificate.proofs.indicators.Part.+indicator.Given as goal

-- each call goes on with a ref at a later slot
abbrev pub decreases-indicator : goal.decreases-indicator
decreases-indicator l = l.self.now.arena.now.slots - level_of l.self.now.arena.now l.root
