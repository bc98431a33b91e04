use Rattle.dcv_print.proofs.PrintedFiles.{printed_is_good}
use Rattle.dcv_print.proofs.PrintedForms.{printed_is_spellable}
use Rattle.dcv_print.proofs.laws.printed_texts_are_good.Goals as goal

pub returns : goal.returns
returns c = record { form = printed_is_spellable; rules = printed_is_good }
