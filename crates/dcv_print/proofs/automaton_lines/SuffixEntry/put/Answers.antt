use Rattle.std.proofs.Common.{append_assoc, append-nil}
use Rattle.dcv_io.proofs.Putting.{puts_same, puts_both}
use Rattle.dcv_print.proofs.automaton_lines.SuffixEntry.put.Goals as goal

pub returns-in-Then : goal.returns-in-Then
returns-in-Then g c =
    rw c.in-Then.is (puts_same _ _ _ _ (puts_both _ _ _ _ _ (puts_both _ _ _ _ _ (puts_both _ _ _ _ _ c.put-in-Then.ensures c.put_letter.ensures) c.put-in-Then-2.ensures) c.put_number.ensures)
    (simp (append_assoc, append-nil)))
