use Rattle.std.proofs.Common.{map, ap, ◌∙◌}
use Rattle.dcv_syntax.specs.Views.{plain_macro}
use Rattle.dcv_scope.specs.Linear.{capped_macro}
use Rattle.dcv_scope.proofs.MeasuredMacros.{in_macro}
use Rattle.dcv_scope.proofs.measures.measure_of_macro.Goals as goal

pub returns : goal.returns
returns c =
    c.in_ok-measure.ensures
    ∙ ap capped_macro (in_macro c.new.result.items c.deref.result.now c.args.declared.now (map plain_macro c.args.earlier.now) c.args.defined.now c.new.ensures.items c.deref.ensures.value)
