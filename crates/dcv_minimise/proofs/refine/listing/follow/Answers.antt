use Rattle.std.proofs.Common.{inl, inr, take, Contains, subst}
use Rattle.std.specs.List.{All}
use Rattle.std.proofs.lemmas.List.{take_all}
use Rattle.std.proofs.lemmas.List.Elements.{All-contains, All-more, All-weaker}
use Rattle.dcv_refinement.specs.Members.{list_of, block_of}
use Rattle.dcv_minimise.proofs.refine.listing.follow.Goals as goal

pub loop-state-preserved : goal.loop-state-preserved
loop-state-preserved c =
    let was = c.loop-state.invariant in
    let blocks = c.args.blocks.now in
    let moved = c.args.moved.now in
    let place = c.loop-state.state-index in
    let old = list_of c.loop-state.members in
    let new = list_of c.put.new.self in
    let put = c.in_ok-put.ensures.put in
    record {
      keeps = λ at one there. put.keeps at one (was.keeps at one there);
      moved = All-more (λ state. Contains (new (block_of blocks state)) state) moved place 0 c.loop-state-test.true
          (All-weaker (λ state. Contains (old (block_of blocks state)) state) (λ state. Contains (new (block_of blocks state)) state)
          (λ one there. put.keeps (block_of blocks one) one there) (take place moved) was.moved)
          put.has;
    }

pub returns : goal.returns
returns c state inside =
    let was = c.loop-state.invariant in
    let blocks = c.args.blocks.now in
    let new = list_of c.loop-state.members in
    let all = subst (All (λ state. Contains (new (block_of blocks state)) state)) (take_all c.loop-state.state-index c.args.moved.now c.loop-state-test.false) was.moved in
    elim (c.requires.has state inside) [
      | inl there ↦ All-contains (λ state. Contains (new (block_of blocks state)) state) c.args.moved.now state all there
      | inr listed ↦ was.keeps (block_of blocks state) state listed
    ]
