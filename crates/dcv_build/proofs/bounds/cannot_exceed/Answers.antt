use Rattle.std.proofs.Common.{◌*◌, ◌≤◌, sym, subst, ◌∙◌}
use Rattle.dcv_shelf.specs.Stored.{view_table}
use Rattle.dcv_language.specs.Table.{automaton_of}
use Rattle.dcv_dfa.specs.Table.{HasStates}
use Rattle.dcv_build.specs.Bounds.{states_of}
use Rattle.dcv_build.proofs.ProductBounds.{product_cannot_exceed}
use Rattle.dcv_build.proofs.bounds.cannot_exceed.Goals as goal

pub returns-then-are_few : goal.returns-then-are_few
returns-then-are_few c few join =
    let first = c.args.first.now in
    let second = c.args.second.now in
    let states : states_of first * states_of second ≤ c.args.limits.states =
    subst (λ many. many ≤ c.args.limits.states) (λ i. (c.from.ensures ∙ c.states.ensures.count) i * (c.from-2.ensures ∙ c.states-2.ensures.count) i) (c.are_few.ensures c.if-are_few.true) in
    product_cannot_exceed first second c.requires.slots c.states.ensures.states
    (subst (λ slots. HasStates (automaton_of (view_table second).table) slots (states_of second)) (sym c.requires.slots) c.states-2.ensures.states)
    join c.args.limits states (c.has_few_nodes.ensures few)
