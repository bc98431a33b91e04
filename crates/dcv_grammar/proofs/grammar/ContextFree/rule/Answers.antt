use Rattle.dcv_grammar.proofs.Tables.{found_here, found_later}
use Rattle.dcv_grammar.proofs.grammar.ContextFree.rule.Goals as goal

pub returns-then-behind-table : goal.returns-then-behind-table
returns-then-behind-table c =
    found_here c.args.self.now.tables.now c.loop-table.table-index _ c.loop-table-test.true c.loop-table.behind c.args.number _ c.loop-table.invariant c.if-behind-table.true

pub loop-table-preserved : goal.loop-table-preserved
loop-table-preserved c =
    found_later c.args.self.now.tables.now c.loop-table.table-index _ c.loop-table-test.true c.loop-table.behind c.args.number c.loop-table.invariant c.if-behind-table.false
