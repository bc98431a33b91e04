use Rattle.std.proofs.Common.{ℕ, ◌<◌, length, take}
use Rattle.dcv_minimise.specs.Division.{HasMoved}
use Rattle.dcv_minimise.proofs.refine.partition.apply.Given as goal

abbrev pub invariant-loop-one : goal.invariant-loop-one
invariant-loop-one l = (state : ℕ) → state < length l.blocks → HasMoved (take l.one-index l.moves) l.fn.blocks l.blocks state
