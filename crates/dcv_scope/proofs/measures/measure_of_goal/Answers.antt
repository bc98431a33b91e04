use Rattle.std.proofs.Common.{ap, ◌∙◌}
use Rattle.dcv_scope.specs.declared.measures.MacroMeasure.{MacroMeasure}
use Rattle.dcv_scope.proofs.MeasuredMacros.{goal_numbers}
use Rattle.dcv_scope.proofs.measures.measure_of_goal.Goals as goal

pub returns : goal.returns
returns c =
    ap (λ (m : MacroMeasure). m.own) c.deref-3.ensures
    ∙ goal_numbers c.args.file.now c.in_ok-measure.measure.value c.new.result.items c.deref.result.now c.deref-2.result.now
    c.new.ensures.items c.deref.ensures.value c.deref-2.ensures.value c.requires.well_named c.in_ok-measure.ensures
