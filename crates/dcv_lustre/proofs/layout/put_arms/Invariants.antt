use Rattle.std.proofs.Common.{take}
use Rattle.std.specs.List.{flat_map}
use Rattle.dcv_io.specs.Putting.{Puts}
use Rattle.dcv_lustre.specs.Seen.{seen_arm}
use Rattle.dcv_lustre.specs.Layout.{text_in, arm_layout}
use Rattle.dcv_lustre.proofs.layout.put_arms.Given as goal

-- the arms so far are put
abbrev pub invariant-loop-arm : goal.invariant-loop-arm
invariant-loop-arm g l = Puts (g.T.Target.standing l.fn.target) (g.T.Target.standing l.target) (flat_map (λ arm. text_in (arm_layout (seen_arm l.names arm))) (take l.arm-index l.arms))
