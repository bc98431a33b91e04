use Rattle.std.proofs.Common.{take}
use Rattle.std.specs.List.{flat_map}
use Rattle.dcv_observer.specs.Layouts.{◌<>◌}
use Rattle.dcv_io.specs.Putting.{Puts}
use Rattle.dcv_lustre.specs.Layout.{text_in, between_inputs, input_layout}
use Rattle.dcv_lustre.proofs.layout.put_inputs.Given as goal

-- the inputs so far are put, each but the first after what stands between
abbrev pub invariant-loop-input : goal.invariant-loop-input
invariant-loop-input g l =
    Puts (g.T.Target.standing l.initial.target) (g.T.Target.standing l.target) (flat_map (λ name. text_in (between_inputs <> input_layout name)) (take l.input-index l.others))
