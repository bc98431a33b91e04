use Rattle.dcv_refinement.specs.Members.{block_of}
use Rattle.dcv_minimise.proofs.ChoiceFacts.{chosen_one, found_among}
use Rattle.dcv_minimise.proofs.refine.votes.vote.Goals as goal

pub returns : goal.returns
returns c =
    let block = block_of c.args.blocks.now c.args.keyed.state in
    let there = found_among c.args.full.now block c.in-Some.place c.in-Some.ensures in
    chosen_one c.args.blocks.now c.args.full.now c.args.witness.now c.args.keyed.state c.requires.state c.requires.number there
