use Rattle.dcv_cli.proofs.Common.{letters_of}
use Rattle.dcv_cli.proofs.SetTexts.{decided}
use Rattle.dcv_cli.proofs.file_set.decide_together.Goals as goal

pub returns-clause-decided : goal.returns-clause-decided
returns-clause-decided c =
    decided c.args.tuples c.width-width.result c.args.set.now.joint c.args.set.now.autos.items c.width-width.ensures _ _ _ _ (letters_of c.in_ok-example.example)
    (letters_of c.in_ok-stuck-2.stuck) c.deref.ensures.value c.deref-2.ensures.value c.in_ok-possible.ensures.answer c.in_ok-example.ensures.least c.in_ok-stuck.ensures.answer
    c.in_ok-stuck-2.ensures.least
