use Rattle.std.proofs.Common.{map, ap, ◌∙◌}
use Rattle.dcv_arena.specs.Arena.{value_of}
use Rattle.dcv_tables.specs.Tables.{state_over}
use Rattle.dcv_tables.proofs.TableFacts.{one_state_more}
use Rattle.dcv_tables.proofs.shown.states_over.Goals as goal

pub loop-number-preserved : goal.loop-number-preserved
loop-number-preserved g c =
    let row = c.in_ok-row.ensures ∙ ap (map (value_of (g.T.Table.arena c.args.table.now) (g.T.Table.row_at c.args.table.now c.loop-number.number))) (c.deref.ensures.value ∙ c.in_ok-letters.ensures.letters) in
    one_state_more (state_over c.args.slots (g.T.Table.arena c.args.table.now) (g.T.Table.automaton c.args.table.now).accepting (g.T.Table.row_at c.args.table.now))
    c.loop-number.states.items c.push.new.self.items _ c.loop-number.number c.loop-number.invariant (λ i. record { accepting = c.accepting-accepts.ensures i; row = row i }) c.in_ok-push.ensures.items
