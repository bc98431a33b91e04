-- The file of the second text is the first's, with a step part of no steps.
use Rattle.dcv_cli.proofs.ConvertedBack.{converted_back}
use Rattle.dcv_cli.proofs.laws.converted_back_is_the_text.Goals as goal

pub returns : goal.returns
returns c = converted_back c.one_file.ensures c.versions_stand_for_the_same.ensures.same c.versions_stand_for_the_same.ensures.back
