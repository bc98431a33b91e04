-- The file that a text spells is the printed one, which is not too long, and one answer is right of it.
use Rattle.dcv_cli.proofs.Printed.{printed_is_certified}
use Rattle.dcv_cli.proofs.laws.printed_is_certified.Goals as goal

pub returns : goal.returns
returns c = printed_is_certified c.one_file.ensures c.one_answer.ensures c.printed_is_certified.ensures
