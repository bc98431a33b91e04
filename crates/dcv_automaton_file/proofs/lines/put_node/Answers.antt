use Rattle.std.proofs.Common.{append_assoc}
use Rattle.dcv_io.proofs.Putting.{puts_same, puts_both}
use Rattle.dcv_automaton_file.proofs.lines.put_node.Goals as goal

pub returns : goal.returns
returns g c =
    puts_same _ _ _ _
    (puts_both _ _ _ _ _ c.put_node_start.ensures (puts_both _ _ _ _ _ c.put_child.ensures (puts_both _ _ _ _ _ c.put.ensures (puts_both _ _ _ _ _ c.put_child-2.ensures c.put-2.ensures))))
    (simp append_assoc)
