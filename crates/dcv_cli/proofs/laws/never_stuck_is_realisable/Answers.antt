use Rattle.dcv_cli.proofs.NeverStuck.{never_stuck_is_realisable}
use Rattle.dcv_cli.proofs.laws.never_stuck_is_realisable.Goals as goal

pub returns : goal.returns
returns c = never_stuck_is_realisable c.one_tree.ensures.text
