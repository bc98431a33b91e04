use Rattle.std.proofs.Common.{◌+◌, ◌≤◌, ◌∙◌, length, ap, subst, arith}
use Rattle.dcv_arena.specs.Arena.{ArenaValue}
use Rattle.dcv_dfa.specs.Auto.{count_of_nodes}
use Rattle.dcv_shelf.specs.Copies.{HasCopies}
use Rattle.dcv_shelf.specs.Stored.{copied_states}
use Rattle.dcv_shelf.proofs.Sharing.{IsKept, is_kept, few_nodes}
use Rattle.dcv_shelf.proofs.stored.Stored.of.Goals as goal
use Rattle.dcv_shelf.proofs.stored.Stored.of.Goals.{After-include, In_ok-states}

few : (c : After-include) → length c.include.new.arena.nodes ≤ length c.args.arena.now.nodes + count_of_nodes c.args.auto.now
few c =
    let own = few_nodes c.args.auto.now c.arena.result.now c.include.ensures.from c.arena.ensures.arena c.slots-slots.ensures.auto.nodes in
    omega (arith, c.include.ensures.few, own)

pub returns-in_default-clause-few : goal.returns-in_default-clause-few
returns-in_default-clause-few c = few (goal.at.returns-in_default-clause-few c).After-include

pub returns-in_err-states-clause-few : goal.returns-in_err-states-clause-few
returns-in_err-states-clause-few c = few (goal.at.returns-in_err-states-clause-few c).After-include

pub returns-clause-few : goal.returns-clause-few
returns-clause-few c = few (goal.at.returns-clause-few c).After-include

kept : (c : In_ok-states) → IsKept c.args.auto.now c.include.new.arena
    (record { slots = c.slots-slots.result; alone = c.starts_alone-alone.result; nodes = c.nodes-nodes.result; states = c.in_ok-states.states })
kept c =
    let auto = c.args.auto.now in
    let arena = c.include.new.arena in
    let copies = c.in-Ok.copies.items in
    is_kept auto c.states_of.ensures.raw arena copies
    (subst (λ (from : ArenaValue). HasCopies from arena copies) c.arena.ensures.arena c.in-Ok.ensures.copies)
    (c.in-Ok.ensures.count ∙ ap (λ (from : ArenaValue). length from.nodes) c.arena.ensures.arena) _ c.slots-slots.ensures.slots
    (c.in_ok-states.ensures.states ∙ ap (λ list. copied_states auto list (length auto.rows)) c.deref.ensures.value)
    c.starts_alone-alone.ensures c.nodes-nodes.ensures

pub returns-clause-stored : goal.returns-clause-stored
returns-clause-stored c = (kept (goal.at.returns-clause-stored c).In_ok-states).stored

pub returns-clause-table : goal.returns-clause-table
returns-clause-table c = (kept (goal.at.returns-clause-table c).In_ok-states).table
