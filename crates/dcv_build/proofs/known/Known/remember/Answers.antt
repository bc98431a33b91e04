use Rattle.std.proofs.Common.{sym, subst}
use Rattle.dcv_build.specs.Asked.{KnownValue, IsAnswer}
use Rattle.dcv_build.proofs.Answered.{remembered}
use Rattle.dcv_build.proofs.known.Known.remember.Goals as goal

pub invariant_of-self : goal.invariant_of-self
invariant_of-self c =
    let inside = c.self.inside in
    let is = subst (λ (known : KnownValue). IsAnswer known.tables known.limits c.args.asked c.args.answer) (sym c.self.view_is) c.requires in (
      c.self.invariant.0,
      remembered inside.shelf.tables inside.limits inside.found.entries c.self.invariant.1 c.insert.result c.insert.new.self.entries c.args.asked c.args.answer is
          c.insert.ensures.entries c.insert.ensures.err,
    )

pub invariant_of-self-2 : goal.invariant_of-self-2
invariant_of-self-2 c =
    let inside = c.self.inside in
    let is = subst (λ (known : KnownValue). IsAnswer known.tables known.limits c.args.asked c.args.answer) (sym c.self.view_is) c.requires in (
      c.self.invariant.0,
      remembered inside.shelf.tables inside.limits inside.found.entries c.self.invariant.1 c.insert.result c.insert.new.self.entries c.args.asked c.args.answer is
          c.insert.ensures.entries c.insert.ensures.err,
    )
