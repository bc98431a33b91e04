use Rattle.dcv_refinement.proofs.SetFacts.{none_stand}
use Rattle.dcv_refinement.proofs.sparse_set.SparseSet.new.Goals as goal

pub invariant_of-result : goal.invariant_of-result
invariant_of-result c = none_stand c.new.result.items c.new-2.result.items c.new.ensures.items
