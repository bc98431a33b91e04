use Rattle.std.proofs.Common.{ℕ, List, sym, subst}
use Rattle.std.proofs.lemmas.List.Elements.{All-push}
use Rattle.std.specs.List.{All}
use Rattle.dcv_arena.specs.declared.nodes.Ref.{Ref}
use Rattle.dcv_sets.specs.Rows.{states_below, IsRowOf}
use Rattle.dcv_sets.proofs.ColumnNumbers.{below_more, more_rows}
use Rattle.dcv_sets.proofs.rows.push_all_rows.Goals as goal

pub loop-state-preserved : goal.loop-state-preserved
loop-state-preserved g c =
    let table = c.args.table.now in
    let row = g.T.Table.row_at table in
    let state = c.loop-state.state in
    let IsRow = IsRowOf (g.T.Table.automaton table) (g.T.Table.slots table) (g.T.Table.arena table) in
    let is = subst (λ (root : Ref). IsRow state root) c.row.ensures.row (record { is_ref = c.row.ensures.is_ref; steps = c.row.ensures.steps }) in
    record {
      added = more_rows c.args.place row state c.args.to.now c.loop-state.invariant.added c.in_ok-push.ensures.ok c.row.ensures.row;
      rows = subst (λ (listed : List ℕ). All (λ state. IsRow state (row state)) listed) (sym (below_more state))
          (All-push (λ state. IsRow state (row state)) (states_below state) state c.loop-state.invariant.rows is);
    }
