use Rattle.dcv_tables_read.proofs.NameLemmas.{IsLeft}
use Rattle.dcv_tables_read.proofs.names.judge_names.Given as goal

abbrev pub invariant-loop-place : goal.invariant-loop-place
invariant-loop-place l = IsLeft l.names l.first l.place l.at
