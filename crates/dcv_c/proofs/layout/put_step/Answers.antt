use Rattle.std.proofs.Common.{map}
use Rattle.dcv_c.specs.Layout.{text_in, step_lines}
use Rattle.dcv_c.specs.Seen.{seen_statement, seen_returned}
use Rattle.dcv_io.proofs.Putting.{puts_both, puts_same}
use Rattle.dcv_c.proofs.layout.put_step.Goals as goal

pub returns : goal.returns
returns g c =
    let names = c.args.names.now in
    puts_same _ _ _ _ (puts_both _ _ _ _ _ c.put_head.ensures (puts_both _ _ _ _ _ c.put_locals.ensures (puts_both _ _ _ _ _ c.put_statements.ensures c.put_end.ensures)))
    (λ i. text_in (step_lines (c.as_bytes.ensures i) (c.deref.ensures.value i) (c.deref-2.ensures.value i) (map (seen_statement names) (c.deref-3.ensures.value i))
    (seen_returned names c.args.step.now.returned)))
