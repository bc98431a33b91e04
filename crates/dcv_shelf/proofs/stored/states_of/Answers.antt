use Rattle.std.proofs.Common.{◌++◌, ◌∷◌, [], ap, sym, ◌∙◌, arith}
use Rattle.std.proofs.lemmas.List.FromFn.{map-range_with_len_more}
use Rattle.std.proofs.lemmas.Option.{get_or_from_slice_get}
use Rattle.dcv_shelf.specs.Copies.{copied_ref}
use Rattle.dcv_arena.specs.declared.nodes.Ref.TheVariants.{Leaf}
use Rattle.dcv_shelf.specs.Stored.{copied_state}
use Rattle.dcv_shelf.proofs.stored.states_of.Goals as goal

pub loop-state-preserved : goal.loop-state-preserved
loop-state-preserved c =
    let auto = c.args.auto.now in
    let copies = c.args.copies.now in
    let number = c.loop-state.state in
    let row = get_or_from_slice_get auto.rows number c.row.result (Leaf 0) c.row.ensures.row in
    c.in_ok-push.ensures.items
    ∙ (λ i. c.loop-state.invariant i ++ record { accepting = c.accepting.ensures i; row = (c.copied.ensures ∙ ap (copied_ref copies) (sym row)) i } ∷ [])
    ∙ sym (map-range_with_len_more (copied_state auto copies) 0 number number (omega arith))
