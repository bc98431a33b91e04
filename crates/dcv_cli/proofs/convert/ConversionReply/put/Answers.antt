use Rattle.dcv_cli.proofs.Common.{puts_both}
use Rattle.dcv_cli.proofs.convert.ConversionReply.put.Goals as goal

pub returns : goal.returns
returns g c = puts_both _ _ _ _ _ c.put.ensures (puts_both _ _ _ _ _ c.put-2.ensures c.put-3.ensures)
