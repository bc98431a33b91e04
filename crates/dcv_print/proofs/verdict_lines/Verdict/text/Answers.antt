use Rattle.dcv_io.proofs.Putting.{text_taken}
use Rattle.dcv_print.proofs.verdict_lines.Verdict.text.Goals as goal

pub returns : goal.returns
returns c =
    text_taken c.new-text.result.bytes.items c.new-text.result.failed c.put.new.target.bytes c.put.new.target.failed c.finish.result _
    c.new-text.ensures.bytes c.new-text.ensures.failed c.put.ensures c.finish.ensures.failed c.finish.ensures.all
