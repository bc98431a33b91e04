use Rattle.std.proofs.Common.{take}
use Rattle.dcv_io.specs.Putting.{Puts}
use Rattle.dcv_observer.specs.Layouts.{◌<>◌, Each}
use Rattle.dcv_c.specs.Layout.{text_in, between_parameters, declaration}
use Rattle.dcv_c.proofs.layout.put_parameters.Given as goal

-- the parameters so far are put, each but the first after what stands between
abbrev pub invariant-loop-parameter : goal.invariant-loop-parameter
invariant-loop-parameter g l =
    Puts (g.T.Target.standing l.initial.target) (g.T.Target.standing l.target)
    (text_in (Each (λ name. between_parameters <> declaration name) (take l.parameter-index l.others)))
