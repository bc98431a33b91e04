use Rattle.dcv_tables_read.proofs.NumberLemmas.{IsLeft}
use Rattle.dcv_tables_read.proofs.array_rules.judge_numbers.Given as goal

abbrev pub invariant-loop-place : goal.invariant-loop-place
invariant-loop-place g l = IsLeft (g.R.Rule.number l.rule) (g.R.Rule.keeps l.rule) l.elements l.first l.place l.at
