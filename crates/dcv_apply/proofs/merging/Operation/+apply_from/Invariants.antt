use Rattle.std.proofs.Common.{◌+◌, ◌-◌, ◌*◌}
use Rattle.dcv_apply.proofs.merging.Operation.+apply_from.Given as goal

-- each visit of sides goes on at a later slot
abbrev pub decreases-apply_from : goal.decreases-apply_from
decreases-apply_from g l = 2 * (l.arena.now.slots - l.from) + 1

abbrev pub decreases-merge_sides : goal.decreases-merge_sides
decreases-merge_sides g l = 2 * (l.arena.now.slots - l.slot)
