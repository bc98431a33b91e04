use Rattle.std.proofs.Common.{◌∙◌, rules}
use Rattle.std.specs.Prelude.{Option, slice_set}
use Rattle.dcv_scope.specs.declared.measures.Share.{Share}
use Rattle.dcv_scope.specs.Linear.{capped_share}
use Rattle.dcv_scope.specs.Walk.{share_within}
use Rattle.dcv_scope.proofs.LookUps.{written}
use Rattle.dcv_scope.proofs.measures.MacroMeasure.within.Goals as goal

pub loop-place-preserved : goal.loop-place-preserved
loop-place-preserved c =
    let step : Option Share → Option Share = λ s. capped_share (share_within c.args.share s) in
    (λ i. slice_set (c.loop-place.invariant i) c.loop-place.place (c.within.ensures i))
    ∙ written step c.args.self.shares c.loop-place.place _ (search rules)
