use Rattle.std.proofs.Common.{◌≡◌, true, false, ap, ◌∙◌, ◌==◌}
use Rattle.dcv_io.proofs.Putting.{puts_both, puts_same}
use Rattle.dcv_c_tables.proofs.Arrays.{nodes_are}
use Rattle.dcv_c_tables.proofs.observer.put_node_arrays.Goals as goal

pub returns : goal.returns
returns g c =
    puts_same _ _ _ _
    (puts_both _ _ _ _ _ c.put_array.ensures (puts_both _ _ _ _ _ c.put_array-2.ensures c.put_array-3.ensures))
    (nodes_are c.args.integer.now c.args.states c.args.lines.now (λ none. let bad : false ≡ true = c.if-is_empty.ensures ∙ ap (λ n. n == 0) none in cc))
