use Rattle.std.proofs.Common.{◌∙◌}
use Rattle.dcv_refinement.proofs.SetFacts.{place_tells}
use Rattle.dcv_refinement.proofs.sparse_set.SparseSet.contains.Goals as goal

pub returns : goal.returns
returns c = c.is_some.ensures ∙ place_tells c.args.self.now c.args.number c.place_of.result c.place_of.ensures
