use Rattle.dcv_cli.proofs.Common.{ap, puts_both, puts_same}
use Rattle.dcv_cli.specs.FileSet.{names_line}
use Rattle.dcv_cli.proofs.file_set.DecidedReply.put.Goals as goal

pub returns : goal.returns
returns g c =
    puts_both _ _ _ _ _ (puts_same _ _ _ _ c.put_variables.ensures (ap names_line c.names.ensures)) (puts_both _ _ _ _ _ c.put_possible.ensures c.put_stuck.ensures)
