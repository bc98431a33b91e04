use Rattle.std.proofs.Common.{◌+◌, inr, sym, subst, ◌∙◌}
use Rattle.std.proofs.lemmas.Bool.{not-true}
use Rattle.dcv_minimise.specs.Division.{HasNumber}
use Rattle.dcv_minimise.proofs.PartFacts.{is_added}
use Rattle.dcv_minimise.proofs.refine.division.Division.number.Goals as goal

pub returns-clause-number : goal.returns-clause-number
returns-clause-number c =
    let old = c.args.self.now.parts.keys in
    let was = c.args.witness.now.items in
    let absent = not-true _ (sym c.in_ok-place.ensures.added ∙ c.if-not-is_new.false) in
    subst (λ witness. HasNumber c.args.self.now.count old c.insert_full.new.self.keys was witness c.args.part c.args.state (c.args.self.now.count + c.in_ok-place.place)) (sym c.in_ok-push.ensures.items)
    (inr (is_added c.args.self.now.count old c.insert_full.new.self.keys was c.args.part c.in_ok-place.place c.in_ok-place.ensures.keys c.in_ok-place.ensures.stored c.args.state absent))
