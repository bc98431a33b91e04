use Rattle.std.proofs.Common.{◌≡◌, ◌∷◌, ℕ, List, refl, ap, ◌∙◌}
use Rattle.dcv_observer.specs.Layouts.{◌<>◌}
use Rattle.dcv_io.proofs.Putting.{puts_one_more, puts_both, puts_same}
use Rattle.dcv_observer.proofs.Listing.{joined_all}
use Rattle.dcv_c.specs.Layout.{text_in, between_parameters, declaration, parameters_layout}
use Rattle.dcv_c.proofs.layout.put_parameters.Goals as goal

pub loop-parameter-preserved : goal.loop-parameter-preserved
loop-parameter-preserved g c =
    puts_one_more (λ (name : List ℕ). text_in (between_parameters <> declaration name)) c.in-Some.others.now c.loop-parameter.parameter-index c.parameter-item.result _ _ _
    c.loop-parameter-test.true c.loop-parameter.invariant
    (puts_same _ _ _ _ c.put_parameter-in-loop-parameter.ensures
    (ap (λ (name : List ℕ). text_in (between_parameters <> declaration name)) (c.as_bytes-in-loop-parameter.ensures ∙ c.parameter-item.is)))

pub returns : goal.returns
returns g c =
    let split : c.args.parameters.now ≡ c.in-Some.first.now ∷ c.in-Some.others.now = c.in-Some.ensures.cases.0 in
    puts_same _ _ _ _ (puts_both _ _ _ _ _ c.put_parameter.ensures c.loop-parameter.invariant)
    (joined_all (λ name. text_in (declaration name)) (text_in between_parameters) (λ names. text_in (parameters_layout names)) (λ first others. refl) c.as_bytes.result.now
    c.in-Some.first.now c.in-Some.others.now c.args.parameters.now c.loop-parameter.parameter-index c.as_bytes.ensures split c.loop-parameter-test.false)
