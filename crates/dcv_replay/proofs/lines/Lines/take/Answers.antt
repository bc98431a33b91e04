use Rattle.std.proofs.Common.{◌<◌, ap, subst, take, ◌++◌, ◌∷◌, [], arith, length-append}
use Rattle.std.proofs.lemmas.List.{length-take}
use Rattle.dcv_replay.specs.TraceText.{most_lines}
use Rattle.dcv_replay.specs.Coming.{LinesValue, IsBad}
use Rattle.dcv_replay.proofs.Texts.{long_is_bad, feedless_more}
use Rattle.dcv_replay.proofs.LineFacts.{bad_at, some_bytes}
use Rattle.dcv_replay.proofs.lines.Lines.take.Goals as goal

pub returns-then-byte-eq10-clause-ok : goal.returns-then-byte-eq10-clause-ok
returns-then-byte-eq10-clause-ok c = rw c.if-byte-eq10.true c.end_line.ensures.ok

pub returns-then-self-eq-LONGEST-clause-ok : goal.returns-then-self-eq-LONGEST-clause-ok
returns-then-self-eq-LONGEST-clause-ok c =
    let is = c.self.invariant.1 in
    let counts = ap (λ (lines : LinesValue). lines.count) c.self.view_is in
    let long = length-take c.self.inside.filled c.self.inside.bytes in
    let few : c.args.self.now.count < most_lines = grind (arith, counts, c.if-self-eq-MOST_LINES.false, is.few) in
    bad_at _ _ _ c.bad_line.ensures few some_bytes
    (subst (λ (lines : LinesValue). IsBad lines.width (lines.line ++ c.args.byte ∷ [])) c.self.view_is
    (long_is_bad _ _ is.width (feedless_more _ (c.args.byte ∷ []) is.feedless (c.if-byte-eq10.false, tt))
    (omega (arith, length-append (take c.self.inside.filled c.self.inside.bytes) (c.args.byte ∷ []), long, c.if-self-eq-LONGEST.true, c.self.told))))
