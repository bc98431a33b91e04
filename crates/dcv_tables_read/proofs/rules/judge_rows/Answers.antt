use Rattle.std.proofs.Common.{◌+◌, arith}
use Rattle.dcv_c_tables.specs.Unit.{TableState}
use Rattle.dcv_c_tables.specs.Layout.{row_head}
use Rattle.dcv_tables_read.specs.Seen.{seen_state}
use Rattle.dcv_tables_read.proofs.NumberLemmas.{array_end, array_judged, rows_of}
use Rattle.dcv_tables_read.proofs.rules.judge_rows.Goals as goal

pub judge_array-requires : goal.judge_array-requires
judge_array-requires c =
    let end = array_end seen_state (λ (state : TableState). state.row) c.args.integer.now row_head c.deref.result.now c.args.unit.now.states.items c.args.at c.opening-before.result c.deref.ensures.value c.opening-before.ensures in
    omega (arith, end, c.requires.room)

pub returns : goal.returns
returns c = array_judged seen_state (λ (state : TableState). state.row) c.args.integer.now row_head c.deref.result.now c.args.unit.now.states.items c.args.at c.opening-before.result c.deref.ensures.value c.opening-before.ensures _ _ c.judge_array.result (rows_of c.args.unit.now (c.len.result + c.len-2.result) (omega (arith, c.len.ensures, c.len-2.ensures))) c.judge_array.ensures
