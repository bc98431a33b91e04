use Rattle.std.proofs.Common.{get_or, subst, arith}
use Rattle.std.proofs.lemmas.Grind.{common_steps}
use Rattle.std.proofs.lemmas.List.Elements.{All-more}
use Rattle.dcv_arena.specs.declared.nodes.Ref.{Ref}
use Rattle.dcv_sets.specs.Rows.{IsRowOf}
use Rattle.dcv_sets.proofs.rows.push_rows.Goals as goal

pub loop-state-preserved : goal.loop-state-preserved
loop-state-preserved g c =
    let table = c.args.table.now in
    let states = c.args.states.now in
    let state = get_or states c.loop-state.state-index 0 in
    let IsRow = IsRowOf (g.T.Table.automaton table) (g.T.Table.slots table) (g.T.Table.arena table) in
    record {
      added = grind (arith, common_steps);
      rows = All-more (λ state. IsRow state (g.T.Table.row_at table state)) states c.loop-state.state-index 0 c.loop-state-test.true c.loop-state.invariant.rows
          (subst (λ (row : Ref). IsRow state row) c.row.ensures.row (record { is_ref = c.row.ensures.is_ref; steps = c.row.ensures.steps }));
    }
