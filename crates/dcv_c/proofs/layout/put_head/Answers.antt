use Rattle.dcv_io.proofs.Putting.{puts_both}
use Rattle.dcv_c.proofs.layout.put_head.Goals as goal

pub returns : goal.returns
returns g c = puts_both _ _ _ _ _ c.put_beginning.ensures (puts_both _ _ _ _ _ c.put_parameters.ensures c.put.ensures)
