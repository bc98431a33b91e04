use Rattle.std.proofs.Common.{◌≡◌, ℕ, ◌<◌, length, Contains}
use Rattle.dcv_arena.specs.declared.nodes.Ref.{Ref}
use Rattle.dcv_refinement.specs.Lists.{AreLinked, listed_at}
use Rattle.dcv_refinement.specs.Leads.{row_at}
use Rattle.dcv_refinement.specs.Index.{IsWithin, IsListedRow}
use Rattle.dcv_refinement.proofs.index.rows_above.Given as goal

abbrev pub invariant-loop-place : goal.invariant-loop-place
invariant-loop-place l = record {
  linked : AreLinked l.lists;
  leaves : length l.lists.leaves.items ≡ length l.rows;
  places : length l.lists.places.items ≡ length l.arena.nodes;
  above : (row : ℕ) → row < l.place → IsWithin l.arena (length l.rows) (row_at l.rows row) → Contains (listed_at l.lists (row_at l.rows row)) row;
  only : (at : Ref) (row : ℕ) → Contains (listed_at l.lists at) row → IsListedRow l.rows at row;
}
