use Rattle.std.proofs.Common.{◌≡◌, List, [], ◌∷◌, ◌++◌, Option, None, IfOk, ap, sym, subst, ◌∙◌}
use Rattle.std.specs.Option.{option_or}
use Rattle.dcv_syntax.specs.declared.names.Name.{Name}
use Rattle.dcv_syntax.specs.Views.{plain_macro, plain_body}
use Rattle.dcv_scope.specs.declared.faults.ScopeFault.{ScopeFault}
use Rattle.dcv_scope.specs.Names.{InSight, Parameter, Defined, texts, occurs, fault_at, occurrences_in_list, occurrences_in_body, first_fault}
use Rattle.dcv_scope.specs.Sights.{in_sight_of, top_sight}
use Rattle.dcv_scope.proofs.NameRows.{macro_faults}
use Rattle.dcv_scope.proofs.naming.in_macro.Goals as goal

abbrev within : Name → List Name → InSight → InSight
within name parameters sight = record sight { defining = name.text ∷ []; variables = texts parameters ++ sight.variables }

pub returns-in-Some-fault_of_parameters : goal.returns-in-Some-fault_of_parameters
returns-in-Some-fault_of_parameters c =
    let defined = c.args.defined.now in
    let name = defined.name in
    let parameters = defined.parameters.items in
    let sight : InSight = top_sight c.args.variables.now c.args.earlier.now in
    let in_body : Option ScopeFault = first_fault (occurrences_in_body (within name parameters sight) (plain_body defined.body)) in
    let outside : in_sight_of c.in_ok-outside.outside ≡ sight = c.in_ok-outside.ensures in
    let heading : in_sight_of c.in_ok-heading.heading ≡ within name [] sight = c.in_ok-heading.ensures ∙ ap (within name []) outside in
    let at_name : fault_at (occurs name Defined sight) ≡ None =
    ap (λ (s : InSight). fault_at (occurs name Defined s)) (sym outside) ∙ sym c.at_definition.ensures ∙ c.in_default.is in
    let at_parameters = (λ i. first_fault (occurrences_in_list Parameter (sym heading i) [] (sym c.deref.ensures.value i))) ∙ sym c.fault_of_parameters.ensures ∙ c.in-Some-fault_of_parameters.is in
    sym (macro_faults sight (plain_macro defined) ∙ (λ i. option_or (option_or (at_name i) (at_parameters i)) in_body))

pub returns : goal.returns
returns c =
    let defined = c.args.defined.now in
    let name = defined.name in
    let parameters = defined.parameters.items in
    let sight : InSight = top_sight c.args.variables.now c.args.earlier.now in
    let outside : in_sight_of c.in_ok-outside.outside ≡ sight = c.in_ok-outside.ensures in
    let heading : in_sight_of c.in_ok-heading.heading ≡ within name [] sight = c.in_ok-heading.ensures ∙ ap (within name []) outside in
    let inside : in_sight_of c.in_ok-inside.inside ≡ within name parameters sight =
    c.in_ok-inside.ensures ∙ (λ i. within name (c.deref-2.ensures.value i) (outside i)) in
    let at_name : fault_at (occurs name Defined sight) ≡ None =
    ap (λ (s : InSight). fault_at (occurs name Defined s)) (sym outside) ∙ sym c.at_definition.ensures ∙ c.in_default.is in
    let at_parameters = (λ i. first_fault (occurrences_in_list Parameter (sym heading i) [] (sym c.deref.ensures.value i))) ∙ sym c.fault_of_parameters.ensures ∙ c.in_default-fault_of_parameters.is in
    let in_body = ap (λ s. first_fault (occurrences_in_body s (plain_body defined.body))) inside in
    subst (λ (whole : Option ScopeFault). IfOk c.fault_in_body.result (λ (fault : Option ScopeFault). fault ≡ whole))
    (in_body ∙ sym (macro_faults sight (plain_macro defined) ∙ (λ i. option_or (option_or (at_name i) (at_parameters i)) (first_fault (occurrences_in_body (within name parameters sight) (plain_body defined.body))))))
    c.fault_in_body.ensures
