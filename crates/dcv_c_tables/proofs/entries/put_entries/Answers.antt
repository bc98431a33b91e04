use Rattle.std.proofs.Common.{ap, ◌∙◌}
use Rattle.std.proofs.lemmas.List.{take_all}
use Rattle.dcv_io.proofs.Putting.{puts_one_more, puts_same}
use Rattle.dcv_observer.specs.Layouts.{Each}
use Rattle.dcv_c_tables.specs.Layout.{text_in, number_line}
use Rattle.dcv_c_tables.proofs.entries.put_entries.Goals as goal

pub loop-element-preserved : goal.loop-element-preserved
loop-element-preserved g c =
    let number = g.E.Entry.number c.args.entry.now in
    puts_one_more (λ element. text_in (number_line (number element))) c.args.elements.now c.loop-element.element-index c.element-item.result _ _ _
    c.loop-element-test.true c.loop-element.invariant
    (puts_same _ _ _ _ c.put_entry.ensures (ap (λ n. text_in (number_line n)) (c.number.ensures ∙ ap number c.element-item.is)))

pub returns : goal.returns
returns g c =
    puts_same _ _ _ _ c.loop-element.invariant
    (ap (λ elements. text_in (Each (λ element. number_line (g.E.Entry.number c.args.entry.now element)) elements))
    (take_all c.loop-element.element-index c.args.elements.now c.loop-element-test.false))
