use Rattle.std.proofs.Common.{◌≡◌, ℕ, ◌<◌, ◌-◌, length, Some, slice_get}
use Rattle.dcv_arena.specs.declared.nodes.Ref.TheVariants.{Place}
use Rattle.dcv_refinement.specs.Leads.{index_of}
use Rattle.dcv_refinement.specs.Index.{IsMarked, IsFollowed, Grows}
use Rattle.dcv_refinement.proofs.climb.Climb.close.Given as goal

-- the marked places so far are followed
abbrev pub invariant-places : goal.invariant-places
invariant-places l = record {
  marked : IsMarked (index_of l.self.arena.now l.self.refs.now) l.self.leaves.now l.found.nodes l.found.rows.items;
  grows : Grows l.fn.found.nodes l.fn.found.rows.items l.found.nodes l.found.rows.items;
  followed : (at place : ℕ) → at < l.next → slice_get l.found.nodes at ≡ Some place
      → IsFollowed l.self.nodes.now l.self.rows.now (Place place) l.found.nodes l.found.rows.items;
}

-- each place is marked once
abbrev pub decreases-places : goal.decreases-places
decreases-places l = length l.self.arena.now.nodes - l.next
