use Rattle.std.proofs.Common.{◌≢◌, ◌<◌, ap, subst, length, [], arith}
use Rattle.std.proofs.lemmas.List.{length-take}
use Rattle.dcv_replay.specs.TraceText.{most_lines, BeginsWithNoLine}
use Rattle.dcv_replay.specs.Coming.{LinesValue}
use Rattle.dcv_replay.proofs.LineFacts.{last_is_bad, last_bad, no_letter}
use Rattle.dcv_replay.proofs.lines.Lines.last.Goals as goal

pub returns-in-Err : goal.returns-in-Err
returns-in-Err c =
    let is = c.self.invariant.1 in
    let long = length-take c.self.inside.filled c.self.inside.bytes in
    last_bad _ _ c.bad_line.ensures
    (subst (λ (lines : LinesValue). lines.count < most_lines) c.self.view_is (is.last (grind (arith, long, c.self.told, c.self.invariant.0, c.if-self-eq0.false))))
    (subst (λ (lines : LinesValue). lines.line ≢ []) c.self.view_is (λ nothing. c.if-self-eq0.false (omega (arith, ap length nothing, long, c.self.told, c.self.invariant.0))))
    (subst (λ (lines : LinesValue). BeginsWithNoLine lines.width lines.line) c.self.view_is
    (last_is_bad _ _ is.feedless (λ letter fits spelled. no_letter _ _ _ c.in-Err.is ((c.read_trace_line.ensures.letter letter).1 (fits, spelled)))))
