use Rattle.std.proofs.Common.{map, subst}
use Rattle.dcv_translation.specs.Scheme.{IsOfBody}
use Rattle.dcv_reader.specs.Actions.{scheme}
use Rattle.dcv_reader.specs.Parts.{seen_part}
use Rattle.dcv_reader.proofs.EachTree.{body_is_meant, number_follows}
use Rattle.dcv_reader.proofs.translation.FileTranslationTranslation.rule.Goals as goal

pub act-requires : goal.act-requires
act-requires c =
    let parts = map seen_part c.args.parts.now in
    record { meant = body_is_meant c.args.rule parts c.requires; number = λ is. number_follows parts (subst (λ rule. IsOfBody scheme rule parts) is c.requires) }
