use Rattle.std.proofs.Common.{inl, inr, ◌∙◌}
use Rattle.dcv_minimise.proofs.OwnNodes.{marked_one}
use Rattle.dcv_minimise.proofs.own_nodes.mark.Goals as goal

pub returns-in-Place-clause-marks : goal.returns-in-Place-clause-marks
returns-in-Place-clause-marks c place is = elim (marked_one c.args.marked.now c.in-Place.place place is) [
  | inl was ↦ inl was
  | inr same ↦ inr (c.in-Place.is ∙ same)
]
