use Rattle.dcv_io.proofs.Putting.{puts_both}
use Rattle.dcv_c.proofs.layout.put_end.Goals as goal

pub returns : goal.returns
returns g c = puts_both _ _ _ _ _ c.put_pieces.ensures (puts_both _ _ _ _ _ c.put_returned.ensures c.put_pieces-2.ensures)
