use Rattle.std.proofs.Common.{eqb, sym, subst}
use Rattle.std.specs.List.{IsDistinct}
use Rattle.dcv_refinement.proofs.SetFacts.{has_there, with_old}
use Rattle.dcv_refinement.proofs.sparse_set.SparseSet.insert.Goals as goal

pub returns-in-Some-clause-numbers : goal.returns-in-Some-clause-numbers
returns-in-Some-clause-numbers c = sym (with_old c.args.self.now c.args.number (has_there c.args.self.now c.in-Some.place c.args.number c.in-Some.ensures))

pub returns-in-Some-clause-once : goal.returns-in-Some-clause-once
returns-in-Some-clause-once c = subst (IsDistinct eqb) c.self.view_is c.self.invariant.1
