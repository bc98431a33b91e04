use Rattle.dcv_io.proofs.Putting.{puts_both}
use Rattle.dcv_automaton_file.proofs.lines.put_node_start.Goals as goal

pub returns : goal.returns
returns g c = puts_both _ _ _ _ _ c.put_pieces.ensures (puts_both _ _ _ _ _ c.put_digits.ensures (puts_both _ _ _ _ _ c.put_pieces-2.ensures (puts_both _ _ _ _ _ c.put.ensures c.put-2.ensures)))
