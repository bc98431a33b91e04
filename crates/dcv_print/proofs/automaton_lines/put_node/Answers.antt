use Rattle.std.proofs.Common.{append_assoc}
use Rattle.dcv_io.proofs.Putting.{puts_same, puts_both}
use Rattle.dcv_print.proofs.automaton_lines.put_node.Goals as goal

pub returns : goal.returns
returns g c =
    puts_same _ _ _ _ (puts_both _ _ _ _ _ (puts_both _ _ _ _ _ (puts_both _ _ _ _ _ (puts_both _ _ _ _ _ c.put_node_head.ensures c.put_child.ensures) c.put.ensures) c.put_child-2.ensures) c.put-2.ensures)
    (simp append_assoc)
