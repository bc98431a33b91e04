use Rattle.dcv_tables_read.proofs.Chain.{stops, stop_passes}
use Rattle.dcv_tables_read.proofs.ArrayTexts.{in_opening, in_lines, in_closing, array_read}
use Rattle.dcv_tables_read.proofs.arrays.array.Goals as goal

pub returns-in_err-opened-clause-fault : goal.returns-in_err-opened-clause-fault
returns-in_err-opened-clause-fault c =
    stops _ _ _ c.in_err-opened.field-0.0 c.from_residual.ensures.1
    (in_opening c.args.entry c.args.integer.now c.args.head.now c.args.count c.in_err-opened.ensures.fault)

pub returns-in_err-numbers-clause-fault : goal.returns-in_err-numbers-clause-fault
returns-in_err-numbers-clause-fault c =
    stop_passes _ _ _ _ _ c.in_err-numbers.field-0.0 c.from_residual-in_err-numbers.ensures.1
    (λ left stuck. in_lines c.args.entry c.args.integer.now c.args.head.now c.args.count _ _ c.in_ok-opened.ensures.ok stuck) c.in_err-numbers.ensures.fault

pub returns-in_err-rest-clause-fault : goal.returns-in_err-rest-clause-fault
returns-in_err-rest-clause-fault c =
    stops _ _ _ c.in_err-rest.field-0.0 c.from_residual-in_err-rest.ensures.1
    (in_closing c.args.entry c.args.integer.now c.args.head.now c.args.count _ _ c.in_ok-opened.ensures.ok _ c.in_ok-numbers.ensures.small c.in_ok-numbers.ensures.spelled c.in_err-rest.ensures.fault)

pub returns-clause-spelled : goal.returns-clause-spelled
returns-clause-spelled c =
    array_read c.args.entry c.args.integer.now c.args.head.now c.args.count _ _ c.in_ok-opened.ensures.ok _ c.in_ok-numbers.ensures.small c.in_ok-numbers.ensures.spelled c.in_ok-rest.ensures.ok
