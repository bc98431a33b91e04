use Rattle.std.proofs.Common.{ℕ, List, Bool, Option, map, drop, ◌++◌, ◌+◌, subst}
use Rattle.std.specs.List.{AllByRecursion}
use Rattle.std.proofs.lemmas.List.{drop_more}
use Rattle.dcv_lexer.specs.Cuts.{Token}
use Rattle.dcv_lustre.specs.Placed.{arm_of}
use Rattle.dcv_lustre.specs.Words.{AreWordsOfArm}
use Rattle.dcv_observer.specs.Conditions.{Names}
use Rattle.dcv_lustre.specs.Seen.{seen_kind}
use Rattle.dcv_lustre.specs.Tree.{Node}
use Rattle.dcv_lustre_read.specs.Seen.{seen_arm}
use Rattle.dcv_lustre_read.specs.declared.placed.PlacedArm.{PlacedArm as CodeArm}
use Rattle.dcv_observer.proofs.Judging.{leads_on}
use Rattle.dcv_lustre_read.proofs.RightSides.{arm_left, arms_more, arms_whole}
use Rattle.dcv_lustre_read.proofs.scope.Scope.arms.Goals as goal

pub returns-in_err-arm : goal.returns-in_err-arm
returns-in_err-arm c = λ (node : Node) (earlier : Names) knows (whole : Option ℕ) (words : List Token) (keeps : List Bool) left.
    let items = c.args.arms.now in
    let i = c.loop-arm.arm-index in
    leads_on whole _ c.from_residual-in_err-arm.result c.in_err-arm.field-0.0 c.from_residual-in_err-arm.ensures.1
    (c.in_err-arm.ensures node earlier knows whole _ _
    (arm_left node (node.inputs ++ earlier) (seen_kind c.args.kind) whole words keeps (drop i items) _ (drop (i + 1) items) (drop_more items i _ c.loop-arm-test.true)
    (c.loop-arm.invariant.1 node earlier knows whole words keeps left).1))

pub loop-arm-preserved : goal.loop-arm-preserved
loop-arm-preserved c =
    let items = c.args.arms.now in
    let i = c.loop-arm.arm-index in
    let split = drop_more items i _ c.loop-arm-test.true in (
      (subst (λ (later : List CodeArm). AllByRecursion AreWordsOfArm (map seen_arm later)) split c.loop-arm.invariant.0).1,
      λ (node : Node) (earlier : Names) knows (whole : Option ℕ) (words : List Token) (keeps : List Bool) left.
          arms_more node (node.inputs ++ earlier) (seen_kind c.args.kind) whole words keeps (drop i items) _ (drop (i + 1) items)
          (map arm_of (map seen_arm items)) c.loop-arm.all.items c.push.new.self.items c.in_ok-arm.field-0 split
          c.in_ok-push.ensures.items (c.loop-arm.invariant.1 node earlier knows whole words keeps left)
          (c.in_ok-arm.ensures node earlier knows whole _ _
          (arm_left node (node.inputs ++ earlier) (seen_kind c.args.kind) whole words keeps (drop i items) _ (drop (i + 1) items) split
          (c.loop-arm.invariant.1 node earlier knows whole words keeps left).1)),
    )

pub returns : goal.returns
returns c = λ (node : Node) (earlier : Names) knows (whole : Option ℕ) (words : List Token) (keeps : List Bool) left.
    arms_whole node (node.inputs ++ earlier) (seen_kind c.args.kind) whole words keeps c.args.arms.now c.loop-arm.arm-index _ c.loop-arm.all.items c.loop-arm-test.false
    (c.loop-arm.invariant.1 node earlier knows whole words keeps left)
