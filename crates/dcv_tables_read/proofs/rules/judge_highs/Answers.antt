use Rattle.std.proofs.Common.{arith}
use Rattle.dcv_c_tables.specs.Unit.{TableNode}
use Rattle.dcv_c_tables.specs.Layout.{high_head}
use Rattle.dcv_tables_read.specs.Seen.{seen_node}
use Rattle.dcv_tables_read.proofs.NumberLemmas.{array_end, array_judged, children_of}
use Rattle.dcv_tables_read.proofs.rules.judge_highs.Goals as goal

pub judge_array-requires : goal.judge_array-requires
judge_array-requires c =
    let end = array_end seen_node (λ (node : TableNode). node.high) c.args.integer.now high_head c.deref.result.now c.args.unit.now.nodes.items c.args.at c.opening-before.result c.deref.ensures.value c.opening-before.ensures in
    omega (arith, end, c.requires.room)

pub returns : goal.returns
returns c = array_judged seen_node (λ (node : TableNode). node.high) c.args.integer.now high_head c.deref.result.now c.args.unit.now.nodes.items c.args.at c.opening-before.result c.deref.ensures.value c.opening-before.ensures _ _ c.judge_array.result (children_of c.args.unit.now (λ node. node.high)) c.judge_array.ensures
