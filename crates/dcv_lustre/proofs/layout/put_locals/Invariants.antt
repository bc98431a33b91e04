use Rattle.std.proofs.Common.{take}
use Rattle.std.specs.List.{flat_map}
use Rattle.dcv_io.specs.Putting.{Puts}
use Rattle.dcv_lustre.specs.Seen.{seen_local}
use Rattle.dcv_lustre.specs.Layout.{text_in, local_line}
use Rattle.dcv_lustre.proofs.layout.put_locals.Given as goal

-- the lines of the locals so far are put
abbrev pub invariant-loop-local : goal.invariant-loop-local
invariant-loop-local g l =
    Puts (g.T.Target.standing l.initial.target) (g.T.Target.standing l.target) (flat_map (λ local. text_in (local_line (seen_local local))) (take l.local-index l.locals))
