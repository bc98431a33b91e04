use Rattle.std.proofs.Common.{◌-◌}
use Rattle.dcv_arena.specs.Arena.{level_of}
use Rattle.dcv_dfa.proofs.node_lines.Numbering.+visit.Given as goal

-- the slots below the ref's own
abbrev pub decreases-visit : goal.decreases-visit
decreases-visit l = l.self.now.arena.now.slots - level_of l.self.now.arena.now l.root
