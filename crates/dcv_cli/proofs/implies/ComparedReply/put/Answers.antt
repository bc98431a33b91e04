-- Where there is a word, it stands after the line that says so.
use Rattle.dcv_cli.proofs.Comparisons.{puts_difference}
use Rattle.dcv_cli.proofs.implies.ComparedReply.put.Goals as goal

pub returns : goal.returns
returns g c =
    puts_difference (g.T.Target.standing c.args.target.now) (g.T.Target.standing c.put-2.new.self) (g.T.Target.standing c.put_word.new.target) c.args.self.now.least
    (c.if-is_none.ensures) c.put-2.ensures c.put_word.ensures
