use Rattle.std.proofs.Common.{[], ◌∷◌, ◌++◌, sym, ap, subst, ◌∙◌}
use Rattle.dcv_minimise.specs.Rounds.{IsByNumber}
use Rattle.dcv_minimise.proofs.FirstBlocks.{one_witness, two_witnesses}
use Rattle.dcv_minimise.proofs.refine.partition.witness_by_flag.Goals as goal

pub returns-in_default : goal.returns-in_default
returns-in_default c =
    let need = c.requires in
    let items = c.in_ok-push.ensures.items ∙ ap (λ list. list ++ 0 ∷ []) c.new-witness.ensures.items in
    subst (IsByNumber c.args.blocks.now) (sym items)
    (one_witness c.args.blocks.now need.some need.two need.zero (sym c.first_other.ensures ∙ c.in_default.is))

pub returns : goal.returns
returns c =
    let need = c.requires in
    let items = c.in_ok-push-2.ensures.items ∙ ap (λ list. list ++ c.in-Some.other ∷ []) (c.in_ok-push.ensures.items ∙ ap (λ list. list ++ 0 ∷ []) c.new-witness.ensures.items) in
    subst (IsByNumber c.args.blocks.now) (sym items)
    (two_witnesses c.args.blocks.now need.some need.two need.zero c.in-Some.other (sym c.first_other.ensures ∙ c.in-Some.is))
