use Rattle.std.proofs.Common.{ap, ◌∙◌, ◌++◌, List, ℕ, ◌∷◌, [], arith}
use Rattle.dcv_word.specs.TraceLine.{line_feed}
use Rattle.dcv_replay.proofs.Steps.{failed_sends, two_more}
use Rattle.dcv_replay.proofs.answers.Answers.push.Goals as goal

pub returns-clause-err : goal.returns-clause-err
returns-clause-err g c =
    failed_sends _ _ _ _ _
    (two_more c.self.inside.bytes c.self.inside.filled c.digit.result line_feed (omega (arith, c.self.told, c.self.invariant))
    ∙ ap (λ (front : List ℕ). front ++ c.digit.result ∷ line_feed ∷ []) c.self.view_is
    ∙ ap (λ (digit : ℕ). c.args.self.now ++ digit ∷ line_feed ∷ []) c.digit.ensures)
    c.write_all.ensures.failed
