use Rattle.std.proofs.Common.{◌≡◌, ℕ, IfOk, map, sym, subst}
use Rattle.dcv_reader.specs.Actions.{action}
use Rattle.dcv_reader.specs.Parts.{seen_part, IsMeant}
use Rattle.dcv_reader.proofs.translation.act.Goals as goal

pub more_names-requires : goal.more_names-requires
more_names-requires c = subst (λ (rule : ℕ). IsMeant (action rule (map seen_part c.args.parts.now))) c.in-2.is c.requires.meant

pub returns-in-2 : goal.returns-in-2
returns-in-2 c =
    subst (λ (rule : ℕ). IfOk c.more_names.result (λ part. seen_part part ≡ action rule (map seen_part c.args.parts.now))) (sym c.in-2.is) c.more_names.ensures
