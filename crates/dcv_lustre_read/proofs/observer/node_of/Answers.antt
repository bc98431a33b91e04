use Rattle.dcv_lustre_read.proofs.observer.node_of.Goals as goal

pub unreachable-requires : goal.unreachable-requires
unreachable-requires c = c.texts_are_nodes_or_at_fault.ensures.none c.args.text.now c.requires.0 c.in-Err.fault c.requires.1 (c.in-Err.ensures.fault c.in_default.not-Memory)
