use Rattle.std.proofs.Common.{◌≡◌, ◌<◌, ◌≤◌, ◌+◌, length, get_or, take, All, refl, sym, subst, ◌∙◌, arith}
use Rattle.std.proofs.lemmas.List.{take_all, get_or_default}
use Rattle.dcv_refinement.specs.Members.{block_of}
use Rattle.dcv_certificate.specs.Partition.{IsMovedTo}
use Rattle.dcv_certificate.specs.Tallies.{AreSizes}
use Rattle.dcv_certificate.proofs.Moving.{AreMoved, one_moved, is_split, new_numbers, number_fits, bound_then}
use Rattle.dcv_certificate.proofs.partition.Partition.renumber.Goals as goal
use Rattle.dcv_certificate.proofs.partition.Partition.renumber.Goals.{In_ok-block}

module _ (c : In_ok-block) where
  within : c.loop-state.state-index < length c.args.part.now
  within = c.loop-state-test.true

  inside : get_or c.args.part.now c.loop-state.state-index 0 < length c.loop-state.self.blocks.items
  inside = omega (arith, c.requires.members c.loop-state.state-index 0 within, c.loop-state.invariant.moved.each)

  moved_to : IsMovedTo c.args.self.now.count c.loop-state.left.keys c.new_block.new.left.keys (block_of c.loop-state.self.blocks.items (get_or c.args.part.now c.loop-state.state-index 0)) c.in_ok-block.block
  moved_to =
      subst (λ block. IsMovedTo c.args.self.now.count c.loop-state.left.keys c.new_block.new.left.keys block c.in_ok-block.block)
      (c.index.ensures ∙ get_or_default c.loop-state.self.blocks.items (get_or c.args.part.now c.loop-state.state-index 0) c.index.result.now 0 inside)
      (subst (λ count. IsMovedTo count c.loop-state.left.keys c.new_block.new.left.keys c.index.result.now c.in_ok-block.block) c.loop-state.invariant.count c.in_ok-block.ensures.moved)

  all_below : All (λ block. block < length c.loop-state.self.sizes.items) c.loop-state.self.blocks.items
  all_below =
      subst (λ count. All (λ block. block < count) c.loop-state.self.blocks.items) (sym c.loop-state.invariant.bound)
      (new_numbers c.args.self.now.count c.args.self.now.blocks.items (take c.loop-state.state-index c.args.part.now) c.loop-state.self.blocks.items c.loop-state.left.keys
      (λ state h. c.requires.numbers state 0 h) c.loop-state.invariant.moved)

  block_fits : c.in_ok-block.block ≤ length c.loop-state.self.sizes.items
  block_fits =
      number_fits c.args.self.now.count c.loop-state.left.keys c.new_block.new.left.keys (block_of c.loop-state.self.blocks.items (get_or c.args.part.now c.loop-state.state-index 0)) c.in_ok-block.block
      (length c.loop-state.self.sizes.items) c.loop-state.invariant.bound moved_to (all_below (get_or c.args.part.now c.loop-state.state-index 0) 0 inside)

pub new_block-requires : goal.new_block-requires
new_block-requires c =
    let sizes = c.loop-state.self.sizes in
    omega (arith, c.loop-state.invariant.bound, c.loop-state.invariant.count, sizes.ok.0, sizes.ok.1, sizes.small)

pub move_to-requires-clause-numbers : goal.move_to-requires-clause-numbers
move_to-requires-clause-numbers c = all_below ((goal.at.move_to-requires-clause-numbers c).In_ok-block)

pub move_to-requires-clause-block : goal.move_to-requires-clause-block
move_to-requires-clause-block c = block_fits ((goal.at.move_to-requires-clause-block c).In_ok-block)

pub loop-state-preserved : goal.loop-state-preserved
loop-state-preserved c =
    let self = c.args.self.now in
    let part = c.args.part.now in
    let i = c.loop-state.state-index in
    let was = c.loop-state.invariant in
    let old = c.loop-state.self in
    let new = c.move_to.new.self in
    let done = c.in_ok-move_to.ensures in
    let before = (goal.at.loop-state-preserved c).In_ok-block in
    let count = bound_then self.count c.loop-state.left.keys c.new_block.new.left.keys (block_of old.blocks.items (get_or part i 0)) c.in_ok-block.block
    (length old.sizes.items) was.bound (moved_to before) (all_below before (get_or part i 0) 0 (inside before)) in
    let size : length new.sizes.items ≡ self.count + length c.new_block.new.left.keys = done.sizes.each ∙ count in
    record {
      vertices = done.vertices ∙ was.vertices;
      suffixes = done.suffixes ∙ was.suffixes;
      parts = done.parts ∙ was.parts;
      count = done.count ∙ was.count;
      bound = size;
      sizes = subst (λ count. AreSizes new.blocks.items count new.sizes.items) (sym done.sizes.each) done.sizes;
      listed = done.members;
      moved = subst (λ blocks. AreMoved self.count (length self.blocks.items) self.blocks.items (take (i + 1) part) blocks c.new_block.new.left.keys) (sym done.blocks)
          (one_moved self.count (length self.blocks.items) self.blocks.items part old.blocks.items c.loop-state.left.keys c.new_block.new.left.keys i c.in_ok-block.block
          (within before) (c.requires.members i 0 (within before)) refl (λ state h. c.requires.numbers state 0 h) was.moved (moved_to before));
    }

pub returns-clause-split : goal.returns-clause-split
returns-clause-split c =
    let self = c.args.self.now in
    let all = take_all c.loop-state.state-index c.args.part.now (omega arith) in
    is_split self.count self.blocks.items c.args.part.now c.loop-state.self.blocks.items c.loop-state.left.keys (λ state h. c.requires.numbers state 0 h)
    (subst (λ part. AreMoved self.count (length self.blocks.items) self.blocks.items part c.loop-state.self.blocks.items c.loop-state.left.keys) all c.loop-state.invariant.moved)

pub returns-clause-numbers : goal.returns-clause-numbers
returns-clause-numbers c = λ k d h.
    let self = c.args.self.now in
    let all = take_all c.loop-state.state-index c.args.part.now (omega arith) in
    let below = new_numbers self.count self.blocks.items c.args.part.now c.loop-state.self.blocks.items c.loop-state.left.keys (λ state h. c.requires.numbers state 0 h)
    (subst (λ part. AreMoved self.count (length self.blocks.items) self.blocks.items part c.loop-state.self.blocks.items c.loop-state.left.keys) all c.loop-state.invariant.moved) k d h in
    omega (arith, below, c.len-self.ensures, c.loop-state.self.sizes.ok.0, c.loop-state.invariant.bound)
