use Rattle.std.proofs.Common.{take}
use Rattle.dcv_io.specs.Putting.{Puts}
use Rattle.dcv_observer.specs.Layouts.{Each}
use Rattle.dcv_c.specs.Seen.{seen_assignment}
use Rattle.dcv_c.specs.Layout.{text_in, assignment_line}
use Rattle.dcv_c.proofs.layout.put_assignments.Given as goal

-- the lines of the assignments so far are put
abbrev pub invariant-loop-assignment : goal.invariant-loop-assignment
invariant-loop-assignment g l =
    Puts (g.T.Target.standing l.fn.target) (g.T.Target.standing l.target)
    (text_in (Each (λ assignment. assignment_line (seen_assignment l.fn.names assignment)) (take l.assignment-index l.assignments)))
