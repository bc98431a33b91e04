use Rattle.dcv_cli.proofs.Common.{ap, puts_same, move_line}
use Rattle.dcv_io.proofs.Putting.{puts_one_more, puts_nothing}
use Rattle.dcv_cli.proofs.synth.put_moves.Goals as goal

pub loop-one-preserved : goal.loop-one-preserved
loop-one-preserved g c =
    puts_one_more move_line c.args.moves.now c.loop-one.one-index c.one-item.result _ _ _ c.loop-one-test.true c.loop-one.invariant
    (puts_same _ _ _ _ c.put_move.ensures (ap move_line c.one-item.is))

pub loop-one-init : goal.loop-one-init
loop-one-init g c = puts_nothing _
