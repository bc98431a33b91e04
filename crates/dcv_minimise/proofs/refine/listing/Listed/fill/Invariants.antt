use Rattle.std.proofs.Common.{take}
use Rattle.dcv_minimise.specs.Listing.{IsListing}
use Rattle.dcv_refinement.specs.Members.{list_of, HaveTheirOwn}
use Rattle.dcv_minimise.proofs.refine.listing.Listed.fill.Given as goal

abbrev pub invariant-loop-state : goal.invariant-loop-state
invariant-loop-state l = record {
  members : HaveTheirOwn l.blocks (list_of l.members);
  listing : IsListing l.blocks l.witness (take l.state-index l.looked) l.self.states.items l.self.full;
}
