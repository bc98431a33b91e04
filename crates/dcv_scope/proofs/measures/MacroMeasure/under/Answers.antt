use Rattle.std.proofs.Common.{◌∙◌, rules}
use Rattle.std.specs.Prelude.{Option, slice_set}
use Rattle.dcv_scope.specs.declared.measures.Share.{Share}
use Rattle.dcv_scope.specs.Linear.{capped_share}
use Rattle.dcv_scope.specs.Walk.{share_under}
use Rattle.dcv_scope.proofs.LookUps.{written}
use Rattle.dcv_scope.proofs.measures.MacroMeasure.under.Goals as goal

pub loop-place-preserved : goal.loop-place-preserved
loop-place-preserved c =
    let step : Option Share → Option Share = λ s. capped_share (share_under c.args.deeper c.args.quantifiers s) in
    (λ i. slice_set (c.loop-place.invariant i) c.loop-place.place (c.under.ensures i))
    ∙ written step c.args.self.shares c.loop-place.place _ (search rules)
