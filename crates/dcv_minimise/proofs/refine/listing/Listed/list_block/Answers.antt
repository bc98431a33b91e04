use Rattle.std.proofs.Common.{subst}
use Rattle.indexmap.proofs.MapLemmas.{OnOk-map}
use Rattle.dcv_refinement.proofs.MemberFacts.{own_mended, block_mended}
use Rattle.dcv_refinement.specs.Members.{list_of}
use Rattle.dcv_minimise.specs.Listing.{IsBlockAdded}
use Rattle.dcv_minimise.proofs.MemberSteps.{block_listed}
use Rattle.dcv_minimise.proofs.refine.listing.Listed.list_block.Goals as goal

pub returns-clause-members : goal.returns-clause-members
returns-clause-members c =
    OnOk-map c.add_block.result _ _ (λ done. own_mended c.args.blocks.now (list_of c.args.members.now) (list_of c.mend.new.self) c.args.block c.mend.ensures c.requires) c.add_block.ensures

pub returns-clause-listed : goal.returns-clause-listed
returns-clause-listed c =
    let blocks = c.args.blocks.now in
    let block = c.args.block in
    let old = c.args.self.now in
    let new = c.add_block.new.self in
    let own = list_of c.mend.new.self block in
    OnOk-map c.add_block.result _ _ (λ added. block_listed blocks block own (block_mended blocks (list_of c.args.members.now) (list_of c.mend.new.self) block c.mend.ensures c.requires)
    old.states.items old.full new.states.items new.full
    (subst (λ own. IsBlockAdded own block old.states.items old.full new.states.items new.full) c.list.ensures added)) c.add_block.ensures
