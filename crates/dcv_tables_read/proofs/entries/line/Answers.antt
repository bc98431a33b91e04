use Rattle.dcv_automaton_lines.proofs.WordSets.{passes}
use Rattle.dcv_tables_read.proofs.LineLists.{in_lead, in_number, in_feed}
use Rattle.dcv_tables_read.proofs.entries.line.Goals as goal

pub returns-in_err-digits-clause-fault : goal.returns-in_err-digits-clause-fault
returns-in_err-digits-clause-fault c = passes _ _ _ c.in_err-digits.field-0.0 c.from_residual.ensures.1 (in_lead c.args.kind c.in_err-digits.ensures.fault)

pub returns-in_err-number-clause-fault : goal.returns-in_err-number-clause-fault
returns-in_err-number-clause-fault c =
    passes _ _ _ c.in_err-number.field-0.0 c.from_residual-in_err-number.ensures.1 (in_number c.args.kind c.in_ok-digits.ensures.ok c.in_err-number.ensures.fault)

pub returns-in_err-rest-clause-fault : goal.returns-in_err-rest-clause-fault
returns-in_err-rest-clause-fault c =
    passes _ _ _ c.in_err-rest.field-0.0 c.from_residual-in_err-rest.ensures.1
    (in_feed c.args.kind _ c.in_ok-number.ensures.small c.in_ok-digits.ensures.ok c.in_ok-number.ensures.spelled c.in_err-rest.ensures.fault)
