use Rattle.std.proofs.Common.{◌≡◌, ◌++◌, length, sym, ap, ◌∙◌}
use Rattle.dcv_syntax.specs.Views.{plain_file}
use Rattle.dcv_scope.specs.CoreOf.{declared_slots}
use Rattle.dcv_scope.specs.Expansions.{names_of}
use Rattle.dcv_core.specs.Steps.{PlainCore}
use Rattle.dcv_core.proofs.MadeSteps.{room_same, made_same}
use Rattle.dcv_scope.proofs.GoalCore.{goal_core, goal_room, made_whole}
use Rattle.dcv_scope.proofs.expansion.expanded_goal.Goals as goal

pub formula-requires-clause-room : goal.formula-requires-clause-room
formula-requires-clause-room c =
    let file = c.args.file.now in
    let slots : c.len-declared.result ≡ length file.variables.items = c.len-declared.ensures ∙ sym c.deref.ensures.len ∙ ap length c.deref.ensures.value in
    let names : names_of c.in_ok-with_variables.field-0.items ≡ declared_slots 0 file.variables.items =
    c.in_ok-with_variables.ensures ∙ (λ i. names_of (c.new.ensures.items i) ++ declared_slots 0 (c.deref-3.ensures.value i)) in
    let core = goal_core file c.len-declared.result c.in_ok-with_variables.field-0.items c.deref-4.result.now c.deref-5.result.now c.deref-4.ensures.value c.deref-5.ensures.value slots names in
    let empty = ap (λ (p : PlainCore). p.steps) c.new-core.ensures in
    room_same (goal_room (plain_file file) c.new-core.result empty c.requires.size c.requires.slots) (sym slots) (sym core)

pub returns-clause-steps : goal.returns-clause-steps
returns-clause-steps c =
    let file = c.args.file.now in
    let slots : c.len-declared.result ≡ length file.variables.items = c.len-declared.ensures ∙ sym c.deref.ensures.len ∙ ap length c.deref.ensures.value in
    let names : names_of c.in_ok-with_variables.field-0.items ≡ declared_slots 0 file.variables.items =
    c.in_ok-with_variables.ensures ∙ (λ i. names_of (c.new.ensures.items i) ++ declared_slots 0 (c.deref-3.ensures.value i)) in
    let core = goal_core file c.len-declared.result c.in_ok-with_variables.field-0.items c.deref-4.result.now c.deref-5.result.now c.deref-4.ensures.value c.deref-5.ensures.value slots names in
    let empty = ap (λ (p : PlainCore). p.steps) c.new-core.ensures in
    made_whole (made_same c.in_ok-formula.ensures slots core) empty
