use Rattle.std.proofs.Common.{IfSome, subst, ◌∙◌}
use Rattle.dcv_build.specs.Asked.{KnownValue, IsAnswer}
use Rattle.dcv_build.proofs.Answered.{found_answers}
use Rattle.dcv_build.proofs.known.Known.find.Goals as goal

pub returns : goal.returns
returns c =
    let inside = c.self.inside in
    subst (λ (known : KnownValue). IfSome c.copied.result (IsAnswer known.tables known.limits c.args.asked)) c.self.view_is
    (found_answers inside.shelf.tables inside.limits inside.found.entries c.self.invariant.1 c.args.asked c.copied.result (c.copied.ensures ∙ c.get.ensures.value))
