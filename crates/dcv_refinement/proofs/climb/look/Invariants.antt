use Rattle.std.proofs.Common.{◌≡◌, ◌≤◌, ◌++◌, length}
use Rattle.dcv_refinement.specs.Lists.{chain}
use Rattle.dcv_refinement.proofs.climb.look.Given as goal

-- what is left of the list
abbrev pub invariant-entries : goal.invariant-entries
invariant-entries l = record {
  within : l.next ≤ length l.entries;
  rest : l.looked.items ++ chain l.entries l.next ≡ l.fn.looked.items ++ chain l.entries l.last;
}

abbrev pub decreases-entries : goal.decreases-entries
decreases-entries l = l.next
