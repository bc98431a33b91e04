use Rattle.std.proofs.Common.{take}
use Rattle.dcv_io.specs.Putting.{Puts}
use Rattle.dcv_observer.specs.Layouts.{Each}
use Rattle.dcv_c_tables.specs.Layout.{text_in, number_line}
use Rattle.dcv_c_tables.proofs.entries.put_entries.Given as goal

-- the lines so far are put
abbrev pub invariant-loop-element : goal.invariant-loop-element
invariant-loop-element g l =
    Puts (g.T.Target.standing l.fn.target) (g.T.Target.standing l.target)
    (text_in (Each (λ element. number_line (g.E.Entry.number l.entry element)) (take l.element-index l.elements)))
