use Rattle.dcv_cli.proofs.Common.{refl, Done}
use Rattle.dcv_cli.specs.Conversion.{conversion_text}
use Rattle.dcv_cli.proofs.ThreeEnds.{answers_reply}
use Rattle.dcv_cli.proofs.convert.ConverterAutomatonCommand.answer.Goals as goal

pub returns : goal.returns
returns g c =
    answers_reply _ _ _ Done (conversion_text c.in_version-conversion.result) (record { status = refl; says = c.in_version-conversion.ensures; no_message = refl }) refl Done refl _
    c.reply_with.ensures
