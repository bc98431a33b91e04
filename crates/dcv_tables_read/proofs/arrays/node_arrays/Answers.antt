use Rattle.std.proofs.Common.{◌<◌, ◌∙◌, arith}
use Rattle.dcv_tables_read.proofs.Chain.{stop_passes}
use Rattle.dcv_tables_read.proofs.ArrayTexts.{in_variables, in_highs, in_lows, nodes_of_numbers, nodes_read}
use Rattle.dcv_tables_read.proofs.arrays.node_arrays.Goals as goal

pub returns-in_err-variables-clause-fault : goal.returns-in_err-variables-clause-fault
returns-in_err-variables-clause-fault c =
    let some : 0 < c.args.count = (let other = c.if-count-eq0.false in omega (arith, other)) in
    stop_passes _ _ _ _ _ c.in_err-variables.field-0.0 c.from_residual.ensures.1
    (λ left stuck. in_variables c.args.integer.now c.args.count some stuck) c.in_err-variables.ensures.fault

pub returns-in_err-highs-clause-fault : goal.returns-in_err-highs-clause-fault
returns-in_err-highs-clause-fault c =
    let some : 0 < c.args.count = (let other = c.if-count-eq0.false in omega (arith, other)) in
    stop_passes _ _ _ _ _ c.in_err-highs.field-0.0 c.from_residual-in_err-highs.ensures.1
    (λ left stuck. in_highs c.args.integer.now c.args.count some _ _ _ c.in_ok-variables.ensures.small c.in_ok-variables.ensures.spelled stuck) c.in_err-highs.ensures.fault

pub returns-in_err-lows-clause-fault : goal.returns-in_err-lows-clause-fault
returns-in_err-lows-clause-fault c =
    let some : 0 < c.args.count = (let other = c.if-count-eq0.false in omega (arith, other)) in
    stop_passes _ _ _ _ _ c.in_err-lows.field-0.0 c.from_residual-in_err-lows.ensures.1
    (λ left stuck. in_lows c.args.integer.now c.args.count some _ _ _ c.in_ok-variables.ensures.small c.in_ok-variables.ensures.spelled
    _ _ c.in_ok-highs.ensures.small c.in_ok-highs.ensures.spelled stuck) c.in_err-lows.ensures.fault

pub returns-clause-small : goal.returns-clause-small
returns-clause-small c =
    let some : 0 < c.args.count = (let other = c.if-count-eq0.false in omega (arith, other)) in
    nodes_of_numbers c.args.integer.now c.args.count some _ _ _ _
    (record { variables_are = c.in_ok-nodes.ensures.variables ∙ c.deref.ensures.value; highs_are = c.in_ok-nodes.ensures.highs ∙ c.deref-2.ensures.value; lows_are = c.in_ok-nodes.ensures.lows ∙ c.deref-3.ensures.value })
    c.in_ok-variables.ensures.small c.in_ok-highs.ensures.small c.in_ok-lows.ensures.small

pub returns-clause-spelled : goal.returns-clause-spelled
returns-clause-spelled c =
    let some : 0 < c.args.count = (let other = c.if-count-eq0.false in omega (arith, other)) in
    nodes_read c.args.integer.now c.args.count some _ _ _ c.in_ok-variables.ensures.small c.in_ok-variables.ensures.spelled
    _ _ c.in_ok-highs.ensures.small c.in_ok-highs.ensures.spelled _ _ c.in_ok-lows.ensures.small c.in_ok-lows.ensures.spelled _
    (record { variables_are = c.in_ok-nodes.ensures.variables ∙ c.deref.ensures.value; highs_are = c.in_ok-nodes.ensures.highs ∙ c.deref-2.ensures.value; lows_are = c.in_ok-nodes.ensures.lows ∙ c.deref-3.ensures.value })
