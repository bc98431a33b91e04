use Rattle.std.proofs.Common.{sym, subst, ◌∙◌}
use Rattle.dcv_atoms.specs.Functions.{FunctionValue, Means}
use Rattle.dcv_atoms.proofs.Joining.{means_joined}
use Rattle.dcv_atoms.proofs.functions.Function.with.Goals as goal

pub returns-in-Ok-clause-joins : goal.returns-in-Ok-clause-joins
returns-in-Ok-clause-joins c P Q first second =
    let own = c.self.inside in
    let other = c.args.arena.now in
    let new = c.in-Ok.ensures in
    let means = subst (λ (function : FunctionValue). Means function.arena function.root other.slots P) (sym c.self.view_is) first in
    let slots = new.slots ∙ c.new-all.ensures.slots ∙ c.slots.ensures.slots in
    means_joined c.args.connective own.arena other c.join.new.arena own.root c.args.root c.in-Ok.root other.slots P Q means second new.is_ref slots
    (λ letter size. new.value letter (size ∙ new.slots))
