use Rattle.std.proofs.Common.{arith}
use Rattle.dcv_tables_read.proofs.Chain.{stops}
use Rattle.dcv_tables_read.proofs.LineLists.{no_lines, line_stuck, line_read, lines_read}
use Rattle.dcv_tables_read.proofs.entries.lines.Goals as goal

pub loop-entry-init : goal.loop-entry-init
loop-entry-init c = no_lines c.args.entry c.args.count c.args.text.now c.new-numbers.ensures.items

pub returns-in_err-number-clause-fault : goal.returns-in_err-number-clause-fault
returns-in_err-number-clause-fault c =
    stops _ _ _ c.in_err-number.field-0.0 c.from_residual.ensures.1 (line_stuck c.loop-entry.invariant (omega (arith, c.loop-entry-test.true)) c.in_err-number.ensures.fault)

pub loop-entry-preserved : goal.loop-entry-preserved
loop-entry-preserved c =
    line_read c.loop-entry.invariant (omega (arith, c.loop-entry-test.true)) c.in_ok-number.number c.in_ok-number.ensures.small c.in_ok-number.ensures.spelled c.in_ok-push.ensures.items

pub returns : goal.returns
returns c =
    record {
      small = lines_read c.loop-entry.invariant (λ less. let full = c.loop-entry-test.false in omega (arith, less, full));
      spelled = c.loop-entry.invariant.spelled;
      fault = tt;
    }
