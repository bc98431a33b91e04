use Rattle.dcv_refinement.proofs.SetFacts.{none_stand}
use Rattle.dcv_refinement.proofs.sparse_set.SparseSet.clear.Goals as goal

pub invariant_of-self : goal.invariant_of-self
invariant_of-self c = none_stand c.clear.new.self.items c.self.inside.places.items c.clear.ensures.items
