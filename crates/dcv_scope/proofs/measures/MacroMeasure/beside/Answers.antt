use Rattle.std.proofs.Common.{◌∙◌, rules}
use Rattle.std.specs.Prelude.{slice_set}
use Rattle.dcv_scope.proofs.LookUps.{both_written}
use Rattle.dcv_scope.proofs.measures.MacroMeasure.beside.Goals as goal

pub loop-place-preserved : goal.loop-place-preserved
loop-place-preserved c =
    (λ i. slice_set (c.loop-place.invariant i) c.loop-place.place (c.beside.ensures i))
    ∙ both_written c.args.self.shares c.args.other.shares c.loop-place.place _ _ (search rules) (search rules)
