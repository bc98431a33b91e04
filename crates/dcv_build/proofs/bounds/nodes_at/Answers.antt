use Rattle.std.proofs.Common.{arith}
use Rattle.dcv_build.specs.Bounds.{is_node_at}
use Rattle.dcv_build.proofs.RowParts.{passing_taken}
use Rattle.dcv_build.proofs.bounds.nodes_at.Goals as goal

pub overflow_add-nodes : goal.overflow_add-nodes
overflow_add-nodes c =
    let few = passing_taken (is_node_at c.args.arena.now c.args.slot) c.args.parts.now c.loop-part.part-index in
    grind (arith, few, c.loop-part.invariant.count, c.loop-part-test.true, c.from-nodes.ensures)
