use Rattle.std.proofs.Common.{◌≢◌, ℕ, ◌<◌, length, Contains}
use Rattle.std.specs.List.{All}
use Rattle.dcv_refinement.specs.Members.{block_of}
use Rattle.dcv_minimise.proofs.refine.partition.Partition.outside_first.Given as goal

abbrev pub invariant-loop-state : goal.invariant-loop-state
invariant-loop-state l = record {
  all : (state : ℕ) → state < l.state → block_of l.self.blocks.items state ≢ 0 → Contains l.others.items state;
  states : All (λ state. state < length l.self.blocks.items) l.others.items;
}
