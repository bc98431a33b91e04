use Rattle.std.proofs.Common.{refl, ap, subst, ◌++◌, ◌∷◌, [], arith}
use Rattle.dcv_word.specs.TraceLine.{line_feed}
use Rattle.dcv_replay.specs.Coming.{LinesValue, IsBad}
use Rattle.dcv_replay.proofs.LineFacts.{line_ends, line_is_bad, bad_at, some_bytes, spent, no_letter}
use Rattle.dcv_replay.proofs.lines.Lines.end_line.Goals as goal

pub returns-in-Ok-clause-ok : goal.returns-in-Ok-clause-ok
returns-in-Ok-clause-ok c =
    let is = c.self.invariant.1 in
    let read = c.in-Ok.ensures.reading in
    let counts = ap (λ (lines : LinesValue). lines.count) c.self.view_is in
    rw (← c.self.view_is) (
      line_ends _ _ _ _ c.without_return-line.ensures read.0 read.1,
      refl,
      spent _ _ (omega (arith, counts, c.requires)) is.short,
    )

pub returns-in-Err-clause-ok : goal.returns-in-Err-clause-ok
returns-in-Err-clause-ok c =
    let is = c.self.invariant.1 in
    bad_at _ _ _ c.bad_line.ensures c.requires some_bytes
    (subst (λ (lines : LinesValue). IsBad lines.width (lines.line ++ line_feed ∷ [])) c.self.view_is
    (line_is_bad _ _ _ c.without_return-line.ensures is.feedless
    (λ letter fits spelled. no_letter _ _ _ c.in-Err.is ((c.read_trace_line.ensures.letter letter).1 (fits, spelled)))))
