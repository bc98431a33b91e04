use Rattle.std.proofs.Common.{◌≡◌, ℕ, ◌<◌, length, Vec, Global, sym, ap, ◌∙◌, arith}
use Rattle.dcv_refinement.specs.NumberLists.{list_at}
use Rattle.dcv_refinement.proofs.ListFacts.{list_as_it_was, on_err_anyhow}
use Rattle.dcv_refinement.proofs.MemberFacts.{list_is}
use Rattle.dcv_refinement.proofs.number_lists.add_to.Goals as goal

pub returns-in_err-push-clause-err : goal.returns-in_err-push-clause-err
returns-in_err-push-clause-err c =
    let old = c.args.lists.now in
    let at = c.args.at in
    let within : at < length old = omega (arith, c.if-at-lists.false) in
    let is : c.push.new.self.items ≡ list_at old at = c.in_err-push.ensures.items ∙ ap (λ (vector : Vec ℕ Global). vector.items) (sym c.index-lists-at.is) ∙ list_is old at c.index-lists-at.result within c.index-lists-at.is in
    on_err_anyhow c.from_residual.result _ (list_as_it_was old at c.args.number c.push.new.self within is)
