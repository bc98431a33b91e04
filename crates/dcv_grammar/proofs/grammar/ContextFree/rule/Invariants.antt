use Rattle.dcv_grammar.proofs.Tables.{IsLeft}
use Rattle.dcv_grammar.proofs.grammar.ContextFree.rule.Given as goal

-- the rule stands as far after in the tables that are left
abbrev pub invariant-loop-table : goal.invariant-loop-table
invariant-loop-table l = IsLeft l.table-items l.table-index l.behind l.number
