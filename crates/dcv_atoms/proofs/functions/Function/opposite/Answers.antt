use Rattle.std.proofs.Common.{not, subst, sym, ◌∙◌}
use Rattle.dcv_renumber.specs.Renumbered.{renumbered}
use Rattle.dcv_atoms.specs.Functions.{Means}
use Rattle.dcv_atoms.proofs.Joining.{means_opposite}
use Rattle.dcv_atoms.proofs.functions.Function.opposite.Goals as goal

pub returns-clause-opposite : goal.returns-clause-opposite
returns-clause-opposite c P means =
    let new = c.in_ok-root.ensures in
    subst (λ arena. Means arena c.in_ok-root.root c.args.arena.now.slots (λ letter. not (P letter))) (sym c.into_arena.ensures)
    (means_opposite c.args.arena.now c.renumber.new.self.own c.args.root c.in_ok-root.root P means new.is_ref (new.kept.slots ∙ c.new-all.ensures.slots)
    (λ letter size. new.value letter (size ∙ new.kept.slots) ∙ (λ i. renumbered (c.new-all.ensures.map i) (c.new-all.ensures.from i) c.args.root letter)))
