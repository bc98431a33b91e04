use Rattle.std.proofs.Common.{take}
use Rattle.dcv_io.specs.Putting.{Puts}
use Rattle.dcv_observer.specs.Layouts.{Each}
use Rattle.dcv_c.specs.Layout.{text_in, local_line}
use Rattle.dcv_c.proofs.layout.put_locals.Given as goal

-- the lines of the locals so far are put
abbrev pub invariant-loop-name : goal.invariant-loop-name
invariant-loop-name g l =
    Puts (g.T.Target.standing l.initial.target) (g.T.Target.standing l.target) (text_in (Each local_line (take l.name-index l.locals)))
