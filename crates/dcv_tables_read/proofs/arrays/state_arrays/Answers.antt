use Rattle.std.proofs.Common.{◌∙◌, ap, map}
use Rattle.std.specs.Prelude.{nat_eq}
use Rattle.dcv_tables_read.proofs.Chain.{stop_passes}
use Rattle.dcv_tables_read.proofs.ArrayTexts.{in_rows, in_accepts, states_of_numbers, states_read}
use Rattle.dcv_tables_read.proofs.arrays.state_arrays.Goals as goal

pub returns-in_err-rows-clause-fault : goal.returns-in_err-rows-clause-fault
returns-in_err-rows-clause-fault c =
    stop_passes _ _ _ _ _ c.in_err-rows.field-0.0 c.from_residual.ensures.1 (λ left stuck. in_rows c.args.integer.now c.args.count stuck) c.in_err-rows.ensures.fault

pub returns-in_err-accepts-clause-fault : goal.returns-in_err-accepts-clause-fault
returns-in_err-accepts-clause-fault c =
    stop_passes _ _ _ _ _ c.in_err-accepts.field-0.0 c.from_residual-in_err-accepts.ensures.1
    (λ left stuck. in_accepts c.args.integer.now c.args.count _ _ _ c.in_ok-rows.ensures.small c.in_ok-rows.ensures.spelled stuck) c.in_err-accepts.ensures.fault

pub returns-clause-small : goal.returns-clause-small
returns-clause-small c =
    states_of_numbers c.args.integer.now c.args.count _ _ _ (record { rows_are = c.in_ok-states.ensures.rows ∙ c.deref.ensures.value; accepts_are = c.in_ok-states.ensures.accepts ∙ ap (map (nat_eq 1)) c.deref-2.ensures.value }) c.in_ok-rows.ensures.small

pub returns-clause-spelled : goal.returns-clause-spelled
returns-clause-spelled c =
    states_read c.args.integer.now c.args.count _ _ _ c.in_ok-rows.ensures.small c.in_ok-rows.ensures.spelled _ _ c.in_ok-accepts.ensures.small c.in_ok-accepts.ensures.spelled _
    (record { rows_are = c.in_ok-states.ensures.rows ∙ c.deref.ensures.value; accepts_are = c.in_ok-states.ensures.accepts ∙ ap (map (nat_eq 1)) c.deref-2.ensures.value })
