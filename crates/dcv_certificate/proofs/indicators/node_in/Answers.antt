use Rattle.std.proofs.Common.{◌∙◌, Err, ap, arith}
use Rattle.dcv_certificate.proofs.indicators.node_in.Goals as goal

pub unreachable-requires : goal.unreachable-requires
unreachable-requires c =
    let full = (c.node.ensures.full c.in-Err-Full.field-0-0).0 (c.in-Err-Full.is ∙ ap Err c.in-Err-Full.field-0-is) in
    absurd (omega (arith, c.requires.room, full.2))
