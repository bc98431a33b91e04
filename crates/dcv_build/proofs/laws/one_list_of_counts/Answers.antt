use Rattle.dcv_build.proofs.CountLaws.{one_list_of_counts}
use Rattle.dcv_build.proofs.laws.one_list_of_counts.Goals as goal

pub returns : goal.returns
returns c = one_list_of_counts c.one_canonical_table.ensures c.steps_are_operations.ensures.each
