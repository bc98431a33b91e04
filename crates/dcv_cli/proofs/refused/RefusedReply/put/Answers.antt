-- The words, and then the end of the line.
use Rattle.dcv_cli.proofs.Common.{puts_both, puts_same}
use Rattle.dcv_cli.proofs.Endings.{ends_line}
use Rattle.dcv_cli.proofs.refused.RefusedReply.put.Goals as goal

pub returns : goal.returns
returns g c = puts_same _ _ _ _ (puts_both _ _ _ _ _ c.put.ensures c.put_end.ensures) (ends_line c.args.self.now)
