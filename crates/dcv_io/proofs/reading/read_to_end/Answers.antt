use Rattle.std.proofs.Common.{arith}
use Rattle.std.proofs.lemmas.List.{length-take}
use Rattle.dcv_io.proofs.Giving.{gives_at_most}
use Rattle.dcv_io.proofs.reading.read_to_end.Goals as goal

pub returns-in_err-count-clause-at_most : goal.returns-in_err-count-clause-at_most
returns-in_err-count-clause-at_most g c =
    gives_at_most _ _ _ _ _ _ c.read_block.ensures.at_most c.loop-buffer.invariant.given
    (omega (arith, length-take c.min-room.result c.loop-buffer.buffer, c.min-room.ensures))
