use Rattle.dcv_minimise.proofs.OwnNodes.{marked_more, part_of_roots}
use Rattle.dcv_minimise.proofs.own_nodes.mark_children.Goals as goal

pub returns-clause-marks : goal.returns-clause-marks
returns-clause-marks c roots of were =
    let arena = c.args.arena.now in
    let lo = part_of_roots arena roots _ _ c.split-lo.ensures.lo_nodes of in
    let hi = part_of_roots arena roots _ _ c.split-lo.ensures.hi_nodes of in
    marked_more arena roots _ _ _ hi (marked_more arena roots _ _ _ lo were c.mark.ensures.marks) c.mark-2.ensures.marks
