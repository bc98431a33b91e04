use Rattle.dcv_cli.proofs.Common.{letters_of}
use Rattle.dcv_cli.proofs.SetTexts.{followed}
use Rattle.dcv_cli.proofs.file_set.decide_following.Goals as goal

pub returns-clause-decided : goal.returns-clause-decided
returns-clause-decided c =
    followed c.args.tuples c.width-width.result c.args.set.now.joint c.args.set.now.autos.items c.width-width.ensures _ _ (letters_of c.in_ok-least.least)
    c.deref.ensures.value c.in_ok-follows.ensures.answer c.in_ok-least.ensures.least
