use Rattle.dcv_arena.proofs.Behind.{behind_fronts}
use Rattle.dcv_arena.proofs.Fewer.{fewer_nodes}
use Rattle.dcv_arena.proofs.Together.{added_are_counted, new_is_one_more}
use Rattle.dcv_arena.proofs.laws.nodes_are_of_what_is_meant.Goals as goal

pub returns : goal.returns
returns c = record { fronts = behind_fronts; new = new_is_one_more; added = added_are_counted; fewer = fewer_nodes }
