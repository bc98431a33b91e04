use Rattle.dcv_automaton_lines.specs.Pieces.{Nothing}
use Rattle.dcv_automaton_lines.specs.Parts.{StepTail}
use Rattle.dcv_automaton_lines.proofs.Gathering.{stops, stop_passes}
use Rattle.dcv_automaton_lines.proofs.LineSets.{not_both}
use Rattle.dcv_automaton_lines.proofs.StepLines.{steps_step, fault_in_step, fault_in_body, fault_in_end, fault_behind_end}
use Rattle.dcv_automaton_lines.proofs.steps.step_lines.Goals as goal

pub returns-in_err-body-clause-fault : goal.returns-in_err-body-clause-fault
returns-in_err-body-clause-fault c =
    stops _ _ _ c.in_err-body.field-0.0 c.from_residual.ensures.1
    (c.loop-rest.invariant.fault _ (fault_in_step c.loop-rest.rest.now (c.begins_with.ensures.0 c.loop-rest-test.true) _ c.in_err-body.ensures.fault))

pub returns-in_err-line-clause-fault : goal.returns-in_err-line-clause-fault
returns-in_err-line-clause-fault c =
    stops _ _ _ c.in_err-line.field-0.0 c.from_residual-in_err-line.ensures.1
    (c.loop-rest.invariant.fault _
    (fault_in_body c.loop-rest.rest.now (c.begins_with.ensures.0 c.loop-rest-test.true) c.in_ok-body.body.now _ c.in_ok-body.ensures.ok c.in_err-line.ensures.fault))

pub loop-rest-preserved : goal.loop-rest-preserved
loop-rest-preserved c =
    let step = steps_step c.loop-rest.lines.items _ c.in_ok-line.line c.args.text.now c.loop-rest.rest.now c.in_ok-body.body.now c.in_ok-line.behind.now
    c.in_ok-push.ensures.items c.in_ok-line.ensures.form c.loop-rest.invariant.form c.loop-rest.invariant.spelled c.in_ok-body.ensures.ok c.in_ok-line.ensures.spelled c.loop-rest.invariant.fault in
    record { form = step.form; spelled = step.spelled; fault = step.fault }

pub returns-in_err-behind-clause-fault : goal.returns-in_err-behind-clause-fault
returns-in_err-behind-clause-fault c =
    stops _ _ _ c.in_err-behind.field-0.0 c.from_residual-in_err-behind.ensures.1
    (c.loop-rest.invariant.fault _ (fault_in_end c.loop-rest.rest.now _ (λ is. not_both c.loop-rest-test.false (c.begins_with.ensures.1 is)) c.in_err-behind.ensures.fault))

pub returns-in_err-nothing-clause-fault : goal.returns-in_err-nothing-clause-fault
returns-in_err-nothing-clause-fault c =
    stop_passes StepTail Nothing c.args.text.now c.in_ok-behind.behind.now _ c.in_err-nothing.field-0.0 c.from_residual-in_err-nothing.ensures.1
    (λ left fault. c.loop-rest.invariant.fault left (fault_behind_end c.loop-rest.rest.now c.in_ok-behind.behind.now c.in_ok-behind.ensures.ok left fault)) c.in_err-nothing.ensures.fault
