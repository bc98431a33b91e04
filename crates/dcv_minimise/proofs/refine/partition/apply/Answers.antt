use Rattle.std.proofs.Common.{take, slice_index_or, slice_set, sym, subst, arith}
use Rattle.std.proofs.lemmas.List.{length-set, take_more, take_all}
use Rattle.dcv_minimise.specs.Division.{move_to, HasMoved}
use Rattle.dcv_minimise.proofs.MoveFacts.{has_moved_more}
use Rattle.dcv_minimise.proofs.refine.partition.apply.Goals as goal

pub loop-one-preserved : goal.loop-one-preserved
loop-one-preserved c state within =
    let moves = c.args.moves.now in
    let place = c.loop-one.one-index in
    let now = c.loop-one.blocks in
    let move = slice_index_or moves place (move_to 0 0) in
    let inside = c.requires place (move_to 0 0) c.loop-one-test.true in
    let size = length-set now move.state move.number in
    subst (λ moves. HasMoved moves c.args.blocks.now (slice_set now move.state move.number) state) (sym (take_more moves place (move_to 0 0) c.loop-one-test.true))
    (has_moved_more (take place moves) move c.args.blocks.now now (omega (arith, inside, c.loop-one.auto.blocks)) state (c.loop-one.invariant state (omega (arith, size, within))))

pub returns : goal.returns
returns c state within =
    subst (λ moves. HasMoved moves c.args.blocks.now c.loop-one.blocks state) (take_all c.loop-one.one-index c.args.moves.now c.loop-one-test.false)
    (c.loop-one.invariant state (omega (arith, c.loop-one.auto.blocks, within)))
