use Rattle.std.proofs.Common.{slice_index_or, take, sym, subst}
use Rattle.std.proofs.lemmas.List.{take_more}
use Rattle.dcv_minimise.specs.Listing.{IsListing}
use Rattle.dcv_minimise.proofs.MemberSteps.{listing_more}
use Rattle.dcv_minimise.proofs.refine.listing.Listed.fill.Goals as goal

pub loop-state-preserved : goal.loop-state-preserved
loop-state-preserved c =
    let blocks = c.args.blocks.now in
    let witness = c.args.witness.now in
    let looked = c.args.looked.now in
    let place = c.loop-state.state-index in
    let old = c.loop-state.self in
    let new = c.look_at.new.self in
    record {
      members = c.in_ok-look_at.ensures.members;
      listing = subst (λ done. IsListing blocks witness done new.states.items new.full) (sym (take_more looked place 0 c.loop-state-test.true))
          (listing_more blocks witness (take place looked) old.states.items old.full (slice_index_or looked place 0) new.states.items new.full
          c.loop-state.invariant.listing c.in_ok-look_at.ensures.looks);
    }
