use Rattle.std.proofs.Common.{arith}
use Rattle.std.proofs.lemmas.Grind.{common_steps}
use Rattle.dcv_io.proofs.Putting.{puts_one_more, puts_nothing, puts_same}
use Rattle.dcv_observer.specs.Layouts.{text_in}
use Rattle.dcv_observer.proofs.Listing.{all_seen}
use Rattle.dcv_lustre.specs.declared.node.Arm.{Arm as CodeArm}
use Rattle.dcv_lustre.specs.Tree.{Arm}
use Rattle.dcv_lustre.specs.Seen.{seen_arm}
use Rattle.dcv_lustre.specs.Layout.{arm_layout}
use Rattle.dcv_lustre.proofs.layout.put_arms.Goals as goal

pub loop-arm-init : goal.loop-arm-init
loop-arm-init g c = puts_nothing _

pub loop-arm-preserved : goal.loop-arm-preserved
loop-arm-preserved g c =
    puts_one_more (λ (arm : CodeArm). text_in (arm_layout (seen_arm c.args.names.now arm))) c.args.arms.now c.loop-arm.arm-index _ _ _ _ c.loop-arm-test.true c.loop-arm.invariant c.put_arm.ensures

pub returns : goal.returns
returns g c =
    puts_same _ _ _ _ c.loop-arm.invariant
    (all_seen (λ (arm : Arm). text_in (arm_layout arm)) (seen_arm c.args.names.now) c.args.arms.now c.loop-arm.arm-index (grind (arith, common_steps)))
