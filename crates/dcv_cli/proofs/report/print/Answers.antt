use Rattle.dcv_cli.proofs.Common.{refl, rules, ◌∙◌, err_from_is_err_and, status_of_verdict}
use Rattle.dcv_cli.proofs.Outcomes.{answer_of_verdict, answers_over, answers_report}
use Rattle.dcv_cli.proofs.ThreeEnds.{answers_reply}
use Rattle.dcv_cli.proofs.report.print.Goals as goal

pub report_on-requires : goal.report_on-requires
report_on-requires g c =
    let given = c.requires.formula in rw c.names.ensures (c.in_ok-built.ensures.printable given.text given.file given.is c.requires.limits)

pub returns-in_err-built : goal.returns-in_err-built
returns-in_err-built g c text file is =
    let p = err_from_is_err_and c.from_residual.result c.from_residual.ensures.1 in
    rw (p.1, p.2) (answers_over file c.in_err-built.field-0.0 (c.in_err-built.ensures.over text file is) _)

pub returns : goal.returns
returns g c text file is =
    let report = c.in_ok-report.report in
    answers_reply _ _ _ (status_of_verdict report.verdict) report.text
    (answers_report c.args.kind c.args.limits file c.names.result.now c.in_ok-built.built report (c.names.ensures ∙ is.names) (c.in_ok-built.ensures.built text file is) c.in_ok-report.ensures)
    (answer_of_verdict report.verdict) _ refl _ c.send_report.ensures

pub returns-in_err-report : goal.returns-in_err-report
returns-in_err-report g c text file is =
    let p = err_from_is_err_and c.from_residual-in_err-report.result c.from_residual-in_err-report.ensures.1 in
    rw (p.1, p.2) (search rules)
