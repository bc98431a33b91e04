use Rattle.std.proofs.Common.{take}
use Rattle.std.specs.List.{flat_map}
use Rattle.dcv_io.specs.Putting.{Puts}
use Rattle.dcv_lustre.specs.Seen.{seen_equation}
use Rattle.dcv_lustre.specs.Layout.{text_in, equation_line}
use Rattle.dcv_lustre.proofs.layout.put_equations.Given as goal

-- the lines of the equations so far are put
abbrev pub invariant-loop-equation : goal.invariant-loop-equation
invariant-loop-equation g l =
    Puts (g.T.Target.standing l.fn.target) (g.T.Target.standing l.target) (flat_map (λ equation. text_in (equation_line (seen_equation l.names equation))) (take l.equation-index l.equations))
