use Rattle.dcv_io.proofs.Putting.{puts_both}
use Rattle.dcv_print.proofs.automaton_lines.put_head.Goals as goal

pub returns : goal.returns
returns g c = puts_both _ _ _ _ _ c.put.ensures (puts_both _ _ _ _ _ c.put_variables.ensures c.put_heading.ensures)
