use Rattle.dcv_build.proofs.RowParts.{RowsSoFar}
use Rattle.dcv_build.proofs.bounds.rows_of.Given as goal

abbrev pub invariant-loop-state : goal.invariant-loop-state
invariant-loop-state l = record {
  so_far : RowsSoFar l.operand l.state l.rows.keys;
}
