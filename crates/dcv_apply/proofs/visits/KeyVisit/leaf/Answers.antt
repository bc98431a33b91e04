use Rattle.std.proofs.Common.{◌≡◌, false, length, replicate, sym, subst, ◌∙◌}
use Rattle.std.proofs.lemmas.List.{length-replicate}
use Rattle.dcv_apply.specs.Sources.{merged_by}
use Rattle.dcv_apply.proofs.visits.KeyVisit.leaf.Goals as goal

pub leaf-requires : goal.leaf-requires
leaf-requires g c =
    let blank = replicate c.args.slots false in
    let size : length blank ≡ c.args.slots = length-replicate c.args.slots false in
    let may = g.G.Merge.may c.args.merge.now in
    subst may (sym (c.in_ok-numbers.ensures blank size) ∙ sym c.deref-2.ensures)
    (subst (λ items. may (merged_by c.args.operation.now items blank)) (sym c.deref.ensures) (c.requires.may blank size))
