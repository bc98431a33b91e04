use Rattle.dcv_cli.proofs.Common.{refl, err_from_is_err_and, status_of_verdict}
use Rattle.dcv_cli.proofs.Outcomes.{answer_of_verdict, answers_over, answers_verdict}
use Rattle.dcv_cli.proofs.ThreeEnds.{answers_reply}
use Rattle.dcv_cli.proofs.report.check.Goals as goal

pub returns-in_err-decide : goal.returns-in_err-decide
returns-in_err-decide g c text file is =
    let p = err_from_is_err_and c.from_residual.result c.from_residual.ensures.1 in
    rw (p.1, p.2) (answers_over file c.in_err-decide.field-0.0 (c.in_err-decide.ensures.over text file is) _)

pub returns : goal.returns
returns g c text file is =
    let report = c.of_verdict-report.result in
    answers_reply _ _ _ (status_of_verdict report.verdict) report.text
    (answers_verdict c.args.limits file report c.of_verdict-report.ensures.verdict c.of_verdict-report.ensures.says (c.in_ok-decide.ensures.decided text file is))
    (answer_of_verdict report.verdict) _ refl _ c.send_report.ensures
