use Rattle.std.proofs.Common.{◌+◌, ◌-◌, ◌*◌}
use Rattle.dcv_arena.specs.Arena.{level_of}
use Rattle.dcv_arena.specs.declared.nodes.Ref.TheVariants.{Place}
use Rattle.dcv_renumber.proofs.renumbering.Numbers.+renumber.Given as goal

-- each visit goes on with refs at later slots
abbrev pub decreases-renumber : goal.decreases-renumber
decreases-renumber l = 2 * (l.self.now.from.now.slots - level_of l.self.now.from.now l.root) + 1

abbrev pub decreases-visit : goal.decreases-visit
decreases-visit l = 2 * (l.self.now.from.now.slots - level_of l.self.now.from.now (Place l.place))
