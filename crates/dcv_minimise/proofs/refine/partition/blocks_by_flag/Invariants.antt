use Rattle.std.proofs.Common.{◌≡◌, ℕ, ◌<◌, length}
use Rattle.dcv_dfa.specs.Raw.{is_accepting}
use Rattle.dcv_refinement.specs.Members.{block_of}
use Rattle.dcv_minimise.specs.Rounds.{flag_block}
use Rattle.dcv_minimise.proofs.refine.partition.blocks_by_flag.Given as goal

abbrev pub invariant-loop-state : goal.invariant-loop-state
invariant-loop-state l = record {
  each : length l.blocks.items ≡ l.state;
  flags : (state : ℕ) → state < l.state → block_of l.blocks.items state ≡ flag_block (is_accepting l.raw 0) (is_accepting l.raw state);
}
