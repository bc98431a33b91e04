use Rattle.std.proofs.Common.{append_assoc, append-nil}
use Rattle.dcv_io.proofs.Putting.{puts_same, puts_both}
use Rattle.dcv_print.proofs.automaton_lines.put_after.Goals as goal

pub returns : goal.returns
returns g c =
    puts_same _ _ _ _ (puts_both _ _ _ _ _ (puts_both _ _ _ _ _ (puts_both _ _ _ _ _ c.put.ensures c.put_number.ensures) c.put-2.ensures) c.put_letter.ensures)
    (simp (append_assoc, append-nil))
