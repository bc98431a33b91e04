use Rattle.std.proofs.Common.{◌+◌, sym, subst}
use Rattle.dcv_build.proofs.RowParts.{RowsSoFar, one_more_row}
use Rattle.dcv_build.proofs.bounds.rows_of.Goals as goal

pub loop-state-preserved : goal.loop-state-preserved
loop-state-preserved c =
    let view = c.args.operand.now in
    let state = c.loop-state.state in
    record {
      so_far = subst (RowsSoFar view (state + 1)) (sym c.in_ok-insert.ensures.keys)
          (one_more_row view state c.loop-state.rows.keys c.row.result c.loop-state.invariant.so_far c.row.ensures.is_ref c.row.ensures.steps);
    }
