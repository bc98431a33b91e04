use Rattle.std.proofs.Common.{ℕ, ◌<◌, Contains}
use Rattle.dcv_refinement.specs.Members.{list_of, block_of}
use Rattle.dcv_certificate.proofs.partition.members_of.Given as goal

abbrev pub invariant-loop-state : goal.invariant-loop-state
invariant-loop-state l = (state : ℕ) → state < l.state → Contains (list_of l.members (block_of l.blocks state)) state
