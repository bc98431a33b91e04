use Rattle.std.proofs.Common.{append_assoc, append-nil}
use Rattle.dcv_io.proofs.Putting.{puts_same, puts_both}
use Rattle.dcv_print.proofs.automaton_lines.AccessEntry.put.Goals as goal

pub returns-in-Start : goal.returns-in-Start
returns-in-Start g c = rw c.in-Start.is (puts_same _ _ _ _ (puts_both _ _ _ _ _ c.put-in-Start.ensures c.put_letter.ensures) (simp (append_assoc, append-nil)))

pub returns-in-After : goal.returns-in-After
returns-in-After g c = rw c.in-After.is c.put_after.ensures
