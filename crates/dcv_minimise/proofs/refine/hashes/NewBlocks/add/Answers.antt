use Rattle.std.proofs.Common.{◌∷◌, [], ◌++◌, sym, subst, ◌∙◌}
use Rattle.std.proofs.lemmas.Bool.{not-true}
use Rattle.dcv_minimise.specs.Hashes.{IsPut}
use Rattle.dcv_minimise.specs.declared.refine.hashes.Alike.{Alike}
use Rattle.dcv_minimise.proofs.HashParts.{put_new}
use Rattle.dcv_minimise.proofs.refine.hashes.NewBlocks.add.Goals as goal

pub returns : goal.returns
returns c =
    let old = c.args.self.now.parts.keys in
    let new = c.insert_full.new.self.keys in
    let blocks = c.args.self.now.blocks.items in
    let witness = c.args.self.now.witness.items in
    let absent = not-true _ (sym c.in_ok-number.ensures.added ∙ c.if-not-is_new.false) in
    subst (λ witness. IsPut Alike old new blocks c.push.new.self.items c.args.self.now.witness.items witness c.args.part c.args.state) (sym c.in_ok-push-2.ensures.items)
    (subst (λ blocks. IsPut Alike old new c.args.self.now.blocks.items blocks witness (witness ++ c.args.state ∷ []) c.args.part c.args.state) (sym c.in_ok-push.ensures.items)
    (put_new old new blocks witness c.args.part c.in_ok-number.number c.args.state c.in_ok-number.ensures.keys c.in_ok-number.ensures.stored absent))
