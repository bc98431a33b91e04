use Rattle.std.proofs.Common.{[], ◌∷◌, ◌++◌, sym, ap, ◌∙◌, append_assoc}
use Rattle.dcv_synth.specs.Units.{names_of_nodes}
use Rattle.dcv_synth.specs.Placing.{numbered}
use Rattle.dcv_synth.proofs.UnitMade.{nodes_more}
use Rattle.dcv_synth.proofs.unit_names.push_nodes.Goals as goal

pub loop-number-preserved : goal.loop-number-preserved
loop-number-preserved c =
    let name = numbered c.args.letter in
    let number = c.loop-number.number in
    c.in_ok-push.ensures.items ∙ (λ i. c.loop-number.invariant i ++ c.in_ok-node.ensures i ∷ [])
    ∙ append_assoc c.args.locals.now.items (names_of_nodes name number) (name number ∷ [])
    ∙ ap (λ names. c.args.locals.now.items ++ names) (sym (nodes_more name number))
