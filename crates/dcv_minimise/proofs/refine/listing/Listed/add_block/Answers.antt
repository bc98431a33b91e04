use Rattle.dcv_minimise.proofs.MemberSteps.{block_added}
use Rattle.dcv_minimise.proofs.refine.listing.Listed.add_block.Goals as goal

pub returns : goal.returns
returns c =
    block_added c.args.own.now c.args.block c.args.self.now.states.items c.args.self.now.full c.extend_from_slice.new.self.items c.insert.new.self
    c.in_ok-extend_from_slice.ensures.items c.in_ok-insert.ensures.numbers
