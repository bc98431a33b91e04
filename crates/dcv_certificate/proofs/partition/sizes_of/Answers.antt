use Rattle.std.proofs.Common.{◌≡◌, ◌<◌, length, get_or, ◌∙◌, arith}
use Rattle.std.proofs.lemmas.List.{get_or_default}
use Rattle.dcv_certificate.proofs.Sizing.{size_bound}
use Rattle.dcv_certificate.proofs.partition.sizes_of.Goals as goal

pub overflow_add-index_mut : goal.overflow_add-index_mut
overflow_add-index_mut c =
    let blocks = c.args.blocks.now in
    let sizes = c.loop-block.sizes.items in
    let block = get_or blocks c.loop-block.block-index 0 in
    let within : block < length sizes = omega (arith, c.requires c.loop-block.block-index 0 c.loop-block-test.true, c.loop-block.invariant.each) in
    let bound = size_bound blocks c.loop-block.block-index sizes block c.loop-block.invariant.so_far within in
    let is : c.index_mut.result.now ≡ get_or sizes block 0 = c.index_mut.ensures.value ∙ get_or_default sizes block c.index_mut.result.now 0 within in
    omega (arith, bound, is, c.loop-block-test.true)
