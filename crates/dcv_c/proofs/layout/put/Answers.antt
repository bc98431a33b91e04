use Rattle.std.proofs.Common.{◌≡◌, ℕ, List, ◌++◌, map, ap, ◌∙◌}
use Rattle.dcv_observer.specs.Layouts.{Each}
use Rattle.dcv_io.proofs.Putting.{puts_both, puts_same}
use Rattle.dcv_c.specs.Tree.{CUnit}
use Rattle.dcv_c.specs.Seen.{names_of, all_names, seen_assignment, seen_statement, seen_returned}
use Rattle.dcv_c.specs.Layout.{text_in, static_line, reset_lines, step_lines, layout_of, text_of}
use Rattle.dcv_c.proofs.layout.put.Goals as goal

-- the parts, one after another
in_turn : (unit : CUnit) (statics reset step : List ℕ) → statics ≡ text_in (Each static_line unit.statics) → reset ≡ text_in (reset_lines unit.reset unit.assignments)
    → step ≡ text_in (step_lines unit.step unit.parameters unit.locals unit.statements unit.returned) → statics ++ (reset ++ step) ≡ text_of unit
unfolding text_of layout_of
in_turn unit statics reset step a b c = λ i. a i ++ (b i ++ c i)

pub returns : goal.returns
returns g c =
    let unit = c.args.unit.now in
    let reset = c.reset.result.now in
    let step = c.step-step.result.now in
    let names_are : all_names c.statics.result.now c.deref.result.now c.deref-2.result.now ≡ names_of unit =
    λ i. c.statics.ensures i ++ ((c.deref.ensures.value ∙ c.step-step.ensures.parameters) i ++ (c.deref-2.ensures.value ∙ c.step-step.ensures.locals) i) in
    let assignments = ap (λ names. map (seen_assignment names) reset.assignments.items) names_are ∙ c.reset.ensures.assignments in
    let statements = ap (λ names. map (seen_statement names) step.statements.items) names_are ∙ c.step-step.ensures.statements in
    let returned = ap (λ names. seen_returned names step.returned) names_are ∙ c.step-step.ensures.returned in
    puts_same _ _ _ _ (puts_both _ _ _ _ _ c.put_statics.ensures (puts_both _ _ _ _ _ c.put_reset.ensures c.put_step.ensures))
    (in_turn unit _ _ _ (ap (λ names. text_in (Each static_line names)) c.statics-2.ensures) (λ i. text_in (reset_lines (c.reset.ensures.name i) (assignments i)))
    (λ i. text_in (step_lines (c.step-step.ensures.name i) (c.step-step.ensures.parameters i) (c.step-step.ensures.locals i) (statements i) (returned i))))
