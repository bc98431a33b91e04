use Rattle.std.proofs.Common.{◌+◌, length, ap, sym, subst, ◌∙◌, arith}
use Rattle.std.proofs.lemmas.List.{length_push}
use Rattle.dcv_arena.proofs.Roots.{kept_in_turn}
use Rattle.dcv_arena.specs.declared.nodes.Ref.TheVariants.{Place}
use Rattle.dcv_shelf.specs.Copies.{IsCopy, HasCopies}
use Rattle.dcv_shelf.proofs.Copies.{copies_kept, one_more_copy}
use Rattle.dcv_shelf.proofs.inclusion.include.Goals as goal

pub loop-place-preserved : goal.loop-place-preserved
loop-place-preserved c =
    let was = c.loop-place.invariant in
    let from = c.args.from.now in
    let before = c.loop-place.arena in
    let after = c.include_node.new.arena in
    let copies = c.loop-place.copies.items in
    record {
      count = ap length c.in_ok-push.ensures.items ∙ length_push copies c.in_ok-copy.copy ∙ ap (λ n. n + 1) was.count;
      copies = subst (HasCopies from after) (sym c.in_ok-push.ensures.items)
          (one_more_copy from after copies c.in_ok-copy.copy (copies_kept from before after copies c.include_node.ensures.kept was.copies)
          (subst (λ at. IsCopy from after (Place at) c.in_ok-copy.copy) (sym was.count) c.in_ok-copy.ensures.copy));
      few = omega (arith, was.few, c.include_node.ensures.few);
      kept = kept_in_turn c.args.arena.now before after was.kept c.include_node.ensures.kept;
      arena = c.include_node.ensures.arena;
    }
