use Rattle.std.proofs.Common.{◌≡◌, ◌∷◌, ◌++◌, map, ap, ◌∙◌}
use Rattle.dcv_io.proofs.Putting.{puts_both, puts_same}
use Rattle.dcv_lustre.specs.Seen.{seen_equation, all_names}
use Rattle.dcv_lustre.specs.Tree.{Local}
use Rattle.dcv_lustre.specs.Meaning.{ok, names_of}
use Rattle.dcv_lustre.specs.Layout.{text_in, layout_of, text_of}
use Rattle.dcv_lustre.proofs.layout.put.Goals as goal

pub returns : goal.returns
unfolding text_of
returns g c =
    let names : all_names c.inputs.result.now c.locals.result.now ≡ names_of c.args.node.now =
    (λ i. c.inputs.ensures i ++ (ok ∷ map (λ (local : Local). local.name) (c.locals.ensures i))) in
    puts_same _ _ _ _
    (puts_both _ _ _ _ _ c.put_opening.ensures (puts_both _ _ _ _ _ c.put_inputs.ensures (puts_both _ _ _ _ _ c.put.ensures
    (puts_both _ _ _ _ _ c.put_locals.ensures (puts_both _ _ _ _ _ c.put-2.ensures (puts_both _ _ _ _ _ c.put_equations.ensures c.put-3.ensures))))))
    (λ i. text_in (layout_of (record {
      name = c.name.ensures i;
      inputs = c.inputs-2.ensures i;
      locals = c.locals-2.ensures i;
      equations = (ap (λ names. map (seen_equation names) c.equations.result.now) names ∙ c.equations.ensures) i;
    })))
