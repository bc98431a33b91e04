use Rattle.std.proofs.Common.{ap, sym, map, ◌∙◌}
use Rattle.dcv_lustre.specs.declared.node.Right.{Right as CodeRight}
use Rattle.dcv_lustre.specs.Tree.{Chosen}
use Rattle.dcv_lustre.specs.Seen.{seen_arm, seen_item, seen_right}
use Rattle.dcv_lustre.specs.Layout.{text_in, right_layout}
use Rattle.dcv_io.proofs.Putting.{puts_both, puts_same}
use Rattle.dcv_lustre.proofs.layout.put_right.Goals as goal

pub returns-in-Chosen : goal.returns-in-Chosen
returns-in-Chosen g c =
    let names = c.args.names.now in
    puts_same _ _ _ _ (puts_both _ _ _ _ _ c.put_arms.ensures c.put_item.ensures)
    (ap (λ arms. text_in (right_layout (Chosen (map (seen_arm names) arms) (seen_item names c.in-Chosen.otherwise)))) c.deref.ensures.value
    ∙ ap (λ (right : CodeRight). text_in (right_layout (seen_right names right))) (sym c.in-Chosen.is))
