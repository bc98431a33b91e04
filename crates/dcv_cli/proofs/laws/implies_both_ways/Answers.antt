-- Each includes the other, so both have the same behaviours.
use Rattle.dcv_cli.proofs.BothWays.{implies_both_ways}
use Rattle.dcv_cli.proofs.laws.implies_both_ways.Goals as goal

pub returns : goal.returns
returns c = implies_both_ways c.one_tree.ensures.text c.none_is_inclusion.ensures.both
