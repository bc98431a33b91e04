use Rattle.std.proofs.Common.{arith}
use Rattle.std.proofs.lemmas.Grind.{common_steps}
use Rattle.dcv_io.proofs.Putting.{puts_one_more, puts_same}
use Rattle.dcv_observer.proofs.Listing.{all_seen}
use Rattle.dcv_c.specs.declared.unit.Statement.{Statement as CodeStatement}
use Rattle.dcv_c.specs.Seen.{seen_statement}
use Rattle.dcv_c.specs.Layout.{text_in, statement_line}
use Rattle.dcv_c.proofs.layout.put_statements.Goals as goal

pub loop-statement-preserved : goal.loop-statement-preserved
loop-statement-preserved g c =
    puts_one_more (λ (statement : CodeStatement). text_in (statement_line (seen_statement c.args.names.now statement))) c.args.statements.now c.loop-statement.statement-index _ _ _ _
    c.loop-statement-test.true c.loop-statement.invariant c.put_statement.ensures

pub returns : goal.returns
returns g c =
    puts_same _ _ _ _ c.loop-statement.invariant
    (all_seen (λ statement. text_in (statement_line statement)) (seen_statement c.args.names.now) c.args.statements.now c.loop-statement.statement-index (grind (arith, common_steps)))
