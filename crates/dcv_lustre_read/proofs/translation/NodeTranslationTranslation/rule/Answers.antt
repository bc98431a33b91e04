use Rattle.std.proofs.Common.{map}
use Rattle.dcv_lustre_read.specs.Symbols.{seen_part}
use Rattle.dcv_lustre_read.proofs.Translated.{body_is_meant}
use Rattle.dcv_lustre_read.proofs.translation.NodeTranslationTranslation.rule.Goals as goal

pub act-requires : goal.act-requires
act-requires c = body_is_meant c.args.rule (map seen_part c.args.parts.now) c.requires
