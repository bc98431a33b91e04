use Rattle.dcv_io.proofs.Putting.{puts_one_more, puts_nothing}
use Rattle.dcv_io.proofs.pieces.put_pieces.Goals as goal

pub loop-piece-preserved : goal.loop-piece-preserved
loop-piece-preserved g c = puts_one_more (λ piece. piece.now) c.args.pieces.now c.loop-piece.piece-index _ _ _ _ c.loop-piece-test.true c.loop-piece.invariant c.put.ensures

pub loop-piece-init : goal.loop-piece-init
loop-piece-init g c = puts_nothing _
