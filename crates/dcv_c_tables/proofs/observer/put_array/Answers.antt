use Rattle.dcv_io.proofs.Putting.{puts_both}
use Rattle.dcv_c_tables.proofs.observer.put_array.Goals as goal

pub returns : goal.returns
returns g c = puts_both _ _ _ _ _ c.put_opening.ensures (puts_both _ _ _ _ _ c.put_entries.ensures c.put_closing.ensures)
