use Rattle.std.proofs.Common.{sym, ap, ◌∙◌}
use Rattle.dcv_print.specs.Report.{ReportValue, text_of}
use Rattle.dcv_print.specs.declared.report.Content.{Content}
use Rattle.dcv_io.proofs.Putting.{puts_same}
use Rattle.dcv_print.proofs.report.Report.put.Goals as goal

pub returns-in-All : goal.returns-in-All
returns-in-All g c =
    puts_same _ _ _ _ c.put_sections.ensures
    (ap (λ (content : Content). text_of c.self.inside.verdict content) (sym c.in-All.is) ∙ ap (λ (report : ReportValue). report.text) c.self.view_is)
