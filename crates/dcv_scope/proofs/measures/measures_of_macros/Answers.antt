use Rattle.std.proofs.Common.{◌++◌, ◌∷◌, [], List, map, take, ap, sym, subst, ◌∙◌, rules}
use Rattle.std.proofs.lemmas.List.{take_all}
use Rattle.std.specs.Prelude.{slice_index_or}
use Rattle.dcv_syntax.specs.declared.files.Macro.{Macro}
use Rattle.dcv_syntax.specs.Views.{plain_macro, plain_file}
use Rattle.dcv_scope.specs.declared.measures.MacroMeasure.{MacroMeasure}
use Rattle.dcv_scope.specs.Linear.{capped_macro, AreMeasuresOf, variables_alone}
use Rattle.dcv_scope.specs.Walk.{linear_of, with_linears, declared_alone, linear_measures}
use Rattle.dcv_scope.proofs.LookUps.{linears-more}
use Rattle.dcv_scope.proofs.MeasuredMacros.{macros_measured}
use Rattle.dcv_scope.proofs.measures.measures_of_macros.Goals as goal

pub loop-place-preserved : goal.loop-place-preserved
loop-place-preserved c =
    let file = c.args.file.now in
    let declared = file.variables.items in
    let macros = file.macros.items in
    let i = c.loop-place.place in
    let this = c.defined-item.is ∙ ap (λ (ms : List Macro). slice_index_or ms i c.defined-item.result) c.deref-defined-items.ensures.value in
    let one = c.in_ok-measure.ensures
    ∙ (λ k. capped_macro (linear_of (with_linears (declared_alone (c.deref-in-loop-place.ensures.value k)) (map plain_macro (take i (c.deref.ensures.value k)))) (plain_macro (this k)))) in
    c.in_ok-push.ensures.items
    ∙ (λ k. c.loop-place.invariant k ++ one k ∷ [])
    ∙ sym (linears-more (declared_alone declared) macros i c.defined-item.result (search rules))

pub returns-clause-measured : goal.returns-clause-measured
returns-clause-measured c =
    let file = c.args.file.now in
    let macros = file.macros.items in
    let all = take_all c.loop-place.place macros (search rules) in
    let is = c.loop-place.invariant ∙ ap (λ (ms : List Macro). linear_measures file.variables.items (map plain_macro ms)) all in
    subst (λ (ns : List MacroMeasure). AreMeasuresOf (variables_alone file.variables.items) (plain_file file).macros ns) (sym is) (macros_measured (plain_file file) c.requires.well_named)
