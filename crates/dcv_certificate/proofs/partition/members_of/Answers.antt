use Rattle.std.proofs.Common.{ℕ, subst}
use Rattle.dcv_refinement.specs.Members.{list_of, IsPut, block_of}
use Rattle.dcv_refinement.proofs.MemberFacts.{own_more}
use Rattle.dcv_certificate.proofs.partition.members_of.Goals as goal

pub loop-state-preserved : goal.loop-state-preserved
loop-state-preserved c =
    let blocks = c.args.blocks.now in
    let state = c.loop-state.state in
    let old = list_of c.loop-state.members in
    let new = list_of c.put.new.self in
    own_more blocks old new state (subst (λ (number : ℕ). IsPut old (block_of blocks state) number new) c.in_ok-number_of.ensures.number c.in_ok-put.ensures.put) c.loop-state.invariant
