use Rattle.std.proofs.Common.{take}
use Rattle.dcv_io.specs.Putting.{Puts}
use Rattle.dcv_observer.specs.Layouts.{Each}
use Rattle.dcv_c.specs.Seen.{seen_statement}
use Rattle.dcv_c.specs.Layout.{text_in, statement_line}
use Rattle.dcv_c.proofs.layout.put_statements.Given as goal

-- the lines of the statements so far are put
abbrev pub invariant-loop-statement : goal.invariant-loop-statement
invariant-loop-statement g l =
    Puts (g.T.Target.standing l.fn.target) (g.T.Target.standing l.target)
    (text_in (Each (λ statement. statement_line (seen_statement l.fn.names statement)) (take l.statement-index l.statements)))
