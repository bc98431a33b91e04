use Rattle.std.proofs.Common.{◌+◌, ◌-◌, min, length}
use Rattle.dcv_refinement.specs.Members.{list_of}
use Rattle.dcv_minimise.specs.Refining.{IsRefining}
use Rattle.dcv_minimise.proofs.refine.divide_on.Given as goal

abbrev pub invariant-rounds : goal.invariant-rounds
invariant-rounds l = IsRefining l.raw l.refining.partition.blocks.items l.refining.partition.witness.items (list_of l.refining.members) l.refining.moved.items

-- each round but the last makes a block more, and there are at most as many as states
abbrev pub decreases-rounds : goal.decreases-rounds
decreases-rounds l = (length l.raw.rows - length l.refining.partition.witness.items) + min 1 (length l.refining.moved.items)
