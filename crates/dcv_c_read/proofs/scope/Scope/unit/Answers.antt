use Rattle.std.proofs.Common.{List, map, ap, sym, ◌++◌, ◌∙◌}
use Rattle.dcv_observer.specs.Left.{seen}
use Rattle.dcv_observer.specs.declared.items.Item.{Item}
use Rattle.dcv_c.specs.Placed.{bytes_of}
use Rattle.dcv_c_read.specs.Scope.{no_names}
use Rattle.dcv_c_read.specs.Contents.{words_of_step, keeps_step}
use Rattle.dcv_c_read.specs.Seen.{seen_unit}
use Rattle.dcv_observer.proofs.Judging.{leads_on}
use Rattle.dcv_c_read.proofs.Whole.{unit_at, whole_at, words_behind_statics, keeps_behind_statics, at_statics, knows_statics}
use Rattle.dcv_c_read.proofs.Named.{AreParts, is_unit, unit_is}
use Rattle.dcv_c_read.proofs.scope.Scope.unit.Goals as goal
use Rattle.dcv_c_read.proofs.scope.Scope.unit.Goals.{In_ok-step}

pub returns-in_err-statics : goal.returns-in_err-statics
returns-in_err-statics c =
    let placed = c.args.placed.now in
    let unit = unit_at placed in
    let whole = whole_at placed in
    let statics = at_statics placed c.deref.ensures.value in
    leads_on whole _ c.from_residual.result c.in_err-statics.field-0.0 c.from_residual.ensures.1
    (c.in_err-statics.ensures no_names c.requires.none whole (words_behind_statics placed) (keeps_behind_statics placed) statics)

pub returns-in_err-reset : goal.returns-in_err-reset
returns-in_err-reset c =
    let placed = c.args.placed.now in
    let unit = unit_at placed in
    let whole = whole_at placed in
    let statics = at_statics placed c.deref.ensures.value in
    let first = c.in_ok-statics.ensures no_names c.requires.none whole (words_behind_statics placed) (keeps_behind_statics placed) statics in
    let knows = knows_statics placed c.declare_all.new.self c.deref.ensures.value first.1 in
    leads_on whole _ c.from_residual-in_err-reset.result c.in_err-reset.field-0.0 c.from_residual-in_err-reset.ensures.1
    (c.in_err-reset.ensures unit.statics knows whole (words_of_step (seen_unit placed)) (keeps_step unit) first.2)

pub returns-in_err-step : goal.returns-in_err-step
returns-in_err-step c =
    let placed = c.args.placed.now in
    let unit = unit_at placed in
    let whole = whole_at placed in
    let statics = at_statics placed c.deref.ensures.value in
    let first = c.in_ok-statics.ensures no_names c.requires.none whole (words_behind_statics placed) (keeps_behind_statics placed) statics in
    let knows = knows_statics placed c.declare_all.new.self c.deref.ensures.value first.1 in
    let second = c.in_ok-reset.ensures unit.statics knows whole (words_of_step (seen_unit placed)) (keeps_step unit) first.2 in
    leads_on whole _ c.from_residual-in_err-step.result c.in_err-step.field-0.0 c.from_residual-in_err-step.ensures.1
    (c.in_err-step.ensures second.2 whole second.3)

parts : (c : In_ok-step) → AreParts (seen_unit c.args.placed.now) c.in_ok-statics.statics.items c.in_ok-reset.reset c.in_ok-step.step
parts c =
    let placed = c.args.placed.now in
    let unit = unit_at placed in
    let whole = whole_at placed in
    let statics = at_statics placed c.deref.ensures.value in
    let first = c.in_ok-statics.ensures no_names c.requires.none whole (words_behind_statics placed) (keeps_behind_statics placed) statics in
    let knows = knows_statics placed c.declare_all.new.self c.deref.ensures.value first.1 in
    let second = c.in_ok-reset.ensures unit.statics knows whole (words_of_step (seen_unit placed)) (keeps_step unit) first.2 in
    let third = c.in_ok-step.ensures second.2 whole second.3 in
    record {
      unbroken = sym third.1.first;
      statics_are = first.0 ∙ ap (λ (items : List Item). bytes_of (map seen items)) c.deref.ensures.value;
      reset_is = second.0;
      assignments_are = second.1 (unit.parameters ++ unit.locals);
      step_is = third.0;
    }

pub new-requires : goal.new-requires
new-requires c = is_unit _ _ _ _ (parts (goal.at.new-requires c).In_ok-step) c.requires.words

pub returns : goal.returns
returns c = c.new.ensures ∙ unit_is _ _ _ _ (parts (goal.at.returns c).In_ok-step)
