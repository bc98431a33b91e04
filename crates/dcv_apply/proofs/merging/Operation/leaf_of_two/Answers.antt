use Rattle.std.proofs.Common.{◌≡◌, false, [], ◌∷◌, length, replicate, sym, subst, arith}
use Rattle.std.proofs.lemmas.List.{length-replicate}
use Rattle.dcv_apply.specs.Operands.{merged_at}
use Rattle.dcv_apply.proofs.merging.Operation.leaf_of_two.Goals as goal

pub leaf-requires : goal.leaf-requires
leaf-requires g c =
    let sources = c.args.self.now.sources in
    let may = g.G.Merge.may c.args.merge.now in
    let blank = replicate c.args.slots false in
    let size : length blank ≡ c.args.slots = length-replicate c.args.slots false in
    subst may (sym (c.two.ensures blank (omega (arith, size))))
    (subst (λ last_slot. may (merged_at last_slot sources.first.now sources.second.now (c.args.one ∷ c.args.other ∷ []) blank)) c.in-Kept.is (c.requires.may blank size))

pub leaf-requires-in-Merged : goal.leaf-requires-in-Merged
leaf-requires-in-Merged g c =
    let sources = c.args.self.now.sources in
    let may = g.G.Merge.may c.args.merge.now in
    let blank = replicate c.args.slots false in
    let size : length blank ≡ c.args.slots = length-replicate c.args.slots false in
    subst may (sym (c.two_at_both.ensures blank size))
    (subst (λ last_slot. may (merged_at last_slot sources.first.now sources.second.now (c.args.one ∷ c.args.other ∷ []) blank)) c.in-Merged.is (c.requires.may blank size))
