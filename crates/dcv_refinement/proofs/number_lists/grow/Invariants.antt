use Rattle.std.proofs.Common.{◌≡◌, ◌≤◌, ℕ, length}
use Rattle.dcv_refinement.specs.NumberLists.{list_at}
use Rattle.dcv_refinement.proofs.number_lists.grow.Given as goal

abbrev pub invariant-loop-place : goal.invariant-loop-place
invariant-loop-place l = record {
  size : l._place ≤ length l.lists.items;
  same : (at : ℕ) → list_at l.lists.items at ≡ list_at l.fn.lists.items at;
}
