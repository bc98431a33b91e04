use Rattle.std.proofs.Common.{ℕ, take, Contains}
use Rattle.std.specs.List.{All}
use Rattle.dcv_refinement.specs.Members.{list_of, block_of}
use Rattle.dcv_minimise.proofs.refine.listing.follow.Given as goal

abbrev pub invariant-loop-state : goal.invariant-loop-state
invariant-loop-state l = record {
  keeps : (at one : ℕ) → Contains (list_of l.fn.members at) one → Contains (list_of l.members at) one;
  moved : All (λ state. Contains (list_of l.members (block_of l.blocks state)) state) (take l.state-index l.moved);
}
