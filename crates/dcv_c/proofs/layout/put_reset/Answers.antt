use Rattle.std.proofs.Common.{map}
use Rattle.dcv_io.proofs.Putting.{puts_both, puts_same}
use Rattle.dcv_c.specs.Seen.{seen_assignment}
use Rattle.dcv_c.specs.Layout.{text_in, reset_lines}
use Rattle.dcv_c.proofs.layout.put_reset.Goals as goal

pub returns : goal.returns
returns g c =
    puts_same _ _ _ _ (puts_both _ _ _ _ _ c.put_head.ensures (puts_both _ _ _ _ _ c.put_assignments.ensures c.put.ensures))
    (λ i. text_in (reset_lines (c.as_bytes.ensures i) (map (seen_assignment c.args.names.now) (c.deref.ensures.value i))))
