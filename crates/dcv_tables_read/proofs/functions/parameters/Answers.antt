use Rattle.std.proofs.Common.{◌<◌, arith}
use Rattle.dcv_tables_read.proofs.Chain.{stops, stop_passes}
use Rattle.dcv_tables_read.proofs.StepTexts.{in_void, in_first, in_names, parameters_read}
use Rattle.dcv_tables_read.proofs.functions.parameters.Goals as goal

pub returns-in_err-rest-clause-fault : goal.returns-in_err-rest-clause-fault
returns-in_err-rest-clause-fault c =
    stops _ _ _ c.in_err-rest.field-0.0 c.from_residual.ensures.1 (in_void c.args.count c.if-count-eq0.true c.in_err-rest.ensures.fault)

pub returns-in_err-first-clause-fault : goal.returns-in_err-first-clause-fault
returns-in_err-first-clause-fault c =
    let some : 0 < c.args.count = (let other = c.if-count-eq0.false in omega (arith, other)) in
    stops _ _ _ c.in_err-first.field-0.0 c.from_residual-in_err-first.ensures.1 (in_first c.args.count some c.in_err-first.ensures.fault)

pub returns-in_err-listed-clause-fault : goal.returns-in_err-listed-clause-fault
returns-in_err-listed-clause-fault c =
    let some : 0 < c.args.count = (let other = c.if-count-eq0.false in omega (arith, other)) in
    stop_passes _ _ _ _ _ c.in_err-listed.field-0.0 c.from_residual-in_err-listed.ensures.1
    (λ left stuck. in_names c.args.count some c.in_ok-first.ensures.ok stuck) c.in_err-listed.ensures.fault

pub returns-clause-spelled : goal.returns-clause-spelled
returns-clause-spelled c =
    let some : 0 < c.args.count = (let other = c.if-count-eq0.false in omega (arith, other)) in
    parameters_read c.args.count some _ c.in_ok-listed.ensures.words _ _ _ c.in_ok-first.ensures.ok c.in_ok-listed.ensures.spelled
