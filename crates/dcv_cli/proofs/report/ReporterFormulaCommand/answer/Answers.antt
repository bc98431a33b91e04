use Rattle.dcv_cli.proofs.report.ReporterFormulaCommand.answer.Goals as goal

pub returns-in-Check : goal.returns-in-Check
returns-in-Check g c text file is = rw c.in-Check.is (c.check.ensures text file is)
