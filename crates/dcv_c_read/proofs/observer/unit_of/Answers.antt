use Rattle.dcv_c_read.proofs.observer.unit_of.Goals as goal

pub unreachable-requires : goal.unreachable-requires
unreachable-requires c = c.texts_are_units_or_at_fault.ensures.none c.args.text.now c.requires.0 c.in-Err.fault c.requires.1 (c.in-Err.ensures.fault c.in_default.not-Memory)
