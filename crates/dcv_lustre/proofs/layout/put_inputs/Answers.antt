use Rattle.std.proofs.Common.{ℕ, List, ap, ◌∙◌, arith}
use Rattle.std.proofs.lemmas.Grind.{common_steps}
use Rattle.dcv_observer.specs.Layouts.{◌<>◌}
use Rattle.dcv_io.proofs.Putting.{puts_one_more, puts_both, puts_same}
use Rattle.dcv_lustre.specs.Layout.{text_in, between_inputs, input_layout}
use Rattle.dcv_lustre.proofs.layout.put_inputs.Goals as goal

pub loop-input-preserved : goal.loop-input-preserved
loop-input-preserved g c =
    puts_one_more (λ (name : List ℕ). text_in (between_inputs <> input_layout name)) c.in-Some.others.now c.loop-input.input-index c.input-item.result _ _ _ c.loop-input-test.true c.loop-input.invariant
    (puts_same _ _ _ _ c.put_input-in-loop-input.ensures (ap (λ (name : List ℕ). text_in (between_inputs <> input_layout name)) (c.as_bytes-in-loop-input.ensures ∙ c.input-item.is)))

pub returns : goal.returns
returns g c = puts_same _ _ _ _ (puts_both _ _ _ _ _ c.put_input.ensures c.loop-input.invariant) (grind (arith, common_steps))
