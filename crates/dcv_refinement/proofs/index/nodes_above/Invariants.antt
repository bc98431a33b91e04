use Rattle.std.proofs.Common.{◌≡◌, ℕ, ◌<◌, length, Contains}
use Rattle.dcv_arena.specs.declared.nodes.Ref.{Ref}
use Rattle.dcv_refinement.specs.Lists.{AreLinked, listed_at}
use Rattle.dcv_refinement.specs.Index.{IsAbove, GoesDown}
use Rattle.dcv_refinement.proofs.index.nodes_above.Given as goal

abbrev pub invariant-loop-place : goal.invariant-loop-place
invariant-loop-place l = record {
  linked : AreLinked l.nodes;
  leaves : length l.nodes.leaves.items ≡ l.leaves;
  places : length l.nodes.places.items ≡ length l.arena.nodes;
  above : (place : ℕ) → place < l.place → IsAbove l.arena l.leaves l.nodes place;
  only : (at : Ref) (place : ℕ) → Contains (listed_at l.nodes at) place → GoesDown l.arena place at;
}
