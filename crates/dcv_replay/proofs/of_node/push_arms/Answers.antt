use Rattle.dcv_replay.proofs.NodeCells.{front_placed, arms_in_turn}
use Rattle.dcv_replay.proofs.of_node.push_arms.Goals as goal

pub loop-last-preserved : goal.loop-last-preserved
loop-last-preserved c = record {
  placed = front_placed _ _ _ c.in-Some.ensures.cases.0 c.loop-last.invariant.placed;
  selected = arms_in_turn _ _ _ _ _ _ _ _ c.in-Some.ensures.cases.0 c.loop-last.invariant.selected c.in_ok-push.ensures.items c.arm_select.ensures;
}
