use Rattle.dcv_io.proofs.Putting.{puts_both}
use Rattle.dcv_c.proofs.layout.put_when.Goals as goal

pub returns : goal.returns
returns g c =
    puts_both _ _ _ _ _ c.put_pieces.ensures (puts_both _ _ _ _ _ c.put_condition.ensures (puts_both _ _ _ _ _ c.put.ensures (puts_both _ _ _ _ _ c.put_name.ensures
    (puts_both _ _ _ _ _ c.put-2.ensures (puts_both _ _ _ _ _ c.put_item.ensures c.put-3.ensures)))))
