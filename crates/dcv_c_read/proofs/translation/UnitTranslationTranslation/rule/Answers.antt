use Rattle.std.proofs.Common.{map}
use Rattle.dcv_c_read.specs.Symbols.{seen_part}
use Rattle.dcv_c_read.proofs.Translated.{body_is_meant}
use Rattle.dcv_c_read.proofs.translation.UnitTranslationTranslation.rule.Goals as goal

pub act-requires : goal.act-requires
act-requires c = body_is_meant c.args.rule (map seen_part c.args.parts.now) c.requires
