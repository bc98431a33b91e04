use Rattle.dcv_automaton_lines.proofs.WordSets.{passes, begins_by, begins_otherwise}
use Rattle.dcv_tables_read.proofs.LineLists.{one_read, nil_read, in_one, in_nil}
use Rattle.dcv_tables_read.proofs.entries.answer.Goals as goal

pub returns-in_err-rest-clause-fault : goal.returns-in_err-rest-clause-fault
returns-in_err-rest-clause-fault c =
    passes _ _ _ c.in_err-rest.field-0.0 c.from_residual.ensures.1
    (in_one _ (begins_by 49 c.args.text.now (c.begins_with.ensures.0 c.if-begins_with.true)) c.in_err-rest.ensures.fault)

pub returns-then-begins_with-clause-spelled : goal.returns-then-begins_with-clause-spelled
returns-then-begins_with-clause-spelled c = one_read c.in_ok-rest.ensures.ok

pub returns-in_err-rest-2-clause-fault : goal.returns-in_err-rest-2-clause-fault
returns-in_err-rest-2-clause-fault c =
    passes _ _ _ c.in_err-rest-2.field-0.0 c.from_residual-in_err-rest-2.ensures.1
    (in_nil (begins_otherwise 49 c.args.text.now c.begins_with.ensures.1 c.if-begins_with.false) c.in_err-rest-2.ensures.fault)

pub returns-clause-spelled : goal.returns-clause-spelled
returns-clause-spelled c = nil_read c.in_ok-rest-2.ensures.ok
