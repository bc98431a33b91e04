use Rattle.std.proofs.Common.{sym, ap, ◌∙◌}
use Rattle.dcv_lustre.specs.Placed.{node_of}
use Rattle.dcv_lustre_read.specs.declared.placed.PlacedNode.{PlacedNode}
use Rattle.dcv_lustre_read.specs.Seen.{seen_node}
use Rattle.dcv_lustre_read.proofs.reading.read.Goals as goal

pub returns-clause-read : goal.returns-clause-read
returns-clause-read c = record {
  placed = seen_node c.in_ok-placed.placed.value;
  spelled = c.in_ok-placed.ensures.spelled;
  is = ap (λ (placed : PlacedNode). node_of (seen_node placed)) (sym c.deref.ensures) ∙ sym c.in_ok-node.ensures.named;
  well_named = c.keeps_the_rules.ensures.names;
}

pub returns-clause-no_fault : goal.returns-clause-no_fault
returns-clause-no_fault c = λ fault at.
    c.texts_are_nodes_or_at_fault.ensures.none c.args.bytes.now c.in_ok-node.node fault (returns-clause-read c) at
