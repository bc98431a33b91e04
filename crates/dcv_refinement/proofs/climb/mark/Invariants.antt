use Rattle.std.proofs.Common.{◌≡◌, ◌≤◌, ℕ, length, eqb, Some, slice_get, ◌⊎◌, Contains}
use Rattle.std.specs.List.{IsDistinct}
use Rattle.dcv_refinement.specs.Lists.{chain}
use Rattle.dcv_refinement.proofs.climb.mark.Given as goal

-- what is left of the list
abbrev pub invariant-entries : goal.invariant-entries
invariant-entries l = record {
  within : l.next ≤ length l.entries;
  listed : (place : ℕ) → Contains (chain l.entries l.next) place → Contains (chain l.entries l.last) place;
  done : (place : ℕ) → Contains (chain l.entries l.last) place → Contains l.marked place ⊎ Contains (chain l.entries l.next) place;
  only : (place : ℕ) → Contains l.marked place → Contains l.fn.marked place ⊎ Contains (chain l.entries l.last) place;
  stay : (at place : ℕ) → slice_get l.fn.marked at ≡ Some place → slice_get l.marked at ≡ Some place;
  once : IsDistinct eqb l.marked;
}

abbrev pub decreases-entries : goal.decreases-entries
decreases-entries l = l.next
