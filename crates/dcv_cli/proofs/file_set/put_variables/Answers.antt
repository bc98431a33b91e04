use Rattle.dcv_cli.proofs.Common.{puts_both}
use Rattle.dcv_cli.proofs.file_set.put_variables.Goals as goal

pub returns : goal.returns
returns g c = puts_both _ _ _ _ _ c.put.ensures (puts_both _ _ _ _ _ c.put_names.ensures c.put-2.ensures)
