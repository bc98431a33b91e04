use Rattle.std.proofs.Common.{◌≡◌, Some, slice_get, sym, subst, ◌∙◌}
use Rattle.std.proofs.lemmas.List.{length-map}
use Rattle.dcv_shelf.specs.Stored.{stored_state, view_table}
use Rattle.dcv_build.specs.Asked.{KnownValue}
use Rattle.dcv_build.proofs.Answered.{answers_kept, turned_answer}
use Rattle.dcv_build.proofs.known.Known.not.Goals as goal

pub invariant_of-self : goal.invariant_of-self
invariant_of-self c =
    let inside = c.self.inside in
    (c.not.ensures.slots ∙ c.self.invariant.0, answers_kept inside.shelf.tables c.not.new.self.tables c.not.ensures.kept inside.limits inside.found.entries c.self.invariant.1)

pub invariant_of-self-2 : goal.invariant_of-self-2
invariant_of-self-2 c =
    let inside = c.self.inside in
    (c.not.ensures.slots ∙ c.self.invariant.0, answers_kept inside.shelf.tables c.not.new.self.tables c.not.ensures.kept inside.limits inside.found.entries c.self.invariant.1)

pub returns-clause-turned : goal.returns-clause-turned
returns-clause-turned c one there =
    let view = c.view-view.result in
    let here = subst (λ (known : KnownValue). slice_get known.tables c.args.operand ≡ Some one) (sym c.self.view_is) there in
    turned_answer c.self.inside.shelf.tables c.not.new.self.tables c.args.operand (view_table view) one c.view-view.ensures.table here _ (c.in_ok-number.ensures.added one here)
    (c.states-states.ensures.count ∙ sym (length-map view.stored.states.items (stored_state view.arena view.stored.slots))) c.nodes-nodes.ensures
