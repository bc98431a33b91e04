use Rattle.dcv_automaton_lines.specs.Parts.{StepTail, Closed}
use Rattle.dcv_automaton_lines.proofs.Gathering.{stops, stop_passes}
use Rattle.dcv_automaton_lines.proofs.StepLines.{fault_in_count, fault_behind_count}
use Rattle.dcv_automaton_lines.proofs.steps.step_part.Goals as goal

pub returns-in_err-count-in-Second-clause-fault : goal.returns-in_err-count-in-Second-clause-fault
returns-in_err-count-in-Second-clause-fault c =
    stops _ _ _ c.in_err-count-in-Second.field-0.0 c.from_residual-in_err-count-in-Second.ensures.1
    (fault_in_count c.args.version c.in-Second.is c.args.text.now _ c.in_err-count-in-Second.ensures.fault)

pub returns-in_err-lines-in-Second-clause-fault : goal.returns-in_err-lines-in-Second-clause-fault
returns-in_err-lines-in-Second-clause-fault c =
    stop_passes (Closed c.args.version) StepTail c.args.text.now c.in_ok-count-in-Second.counted.now _ c.in_err-lines-in-Second.field-0.0
    c.from_residual-in_err-lines-in-Second.ensures.1
    (fault_behind_count c.args.version c.in-Second.is c.args.text.now c.in_ok-count-in-Second.counted.now c.in_ok-count-in-Second.count c.in_ok-count-in-Second.ensures.small
    c.in_ok-count-in-Second.ensures.spelled) c.in_err-lines-in-Second.ensures.fault
