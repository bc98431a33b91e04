use Rattle.std.proofs.Common.{ap, ◌∙◌}
use Rattle.dcv_io.proofs.Putting.{puts_one_more, puts_same}
use Rattle.dcv_c.specs.Layout.{text_in, static_line}
use Rattle.dcv_c.proofs.layout.put_statics.Goals as goal

pub loop-name-preserved : goal.loop-name-preserved
loop-name-preserved g c =
    puts_one_more (λ name. text_in (static_line name)) c.args.statics.now c.loop-name.name-index c.name-item.result _ _ _ c.loop-name-test.true c.loop-name.invariant
    (puts_same _ _ _ _ c.put_static.ensures (ap (λ name. text_in (static_line name)) (c.as_bytes.ensures ∙ c.name-item.is)))
