use Rattle.std.proofs.Common.{◌∙◌, ◌++◌, append-nil, codes}
use Rattle.dcv_language.specs.VerdictText.{shown}
use Rattle.dcv_print.specs.Verdict.{letters_of}
use Rattle.dcv_io.proofs.Putting.{puts_same, puts_both}
use Rattle.dcv_print.proofs.verdict_lines.Verdict.put.Goals as goal

pub returns : goal.returns
returns g c =
    let verdict = c.args.self.now in
    puts_same _ _ _ _ (puts_both _ _ _ _ _ (puts_both _ _ _ _ _ c.put_pieces.ensures c.put_word.ensures) c.put_word-2.ensures)
    (λ i. c.validity.ensures i ++ (append-nil c.satisfiability.result.now ∙ c.satisfiability.ensures) i
    ++ shown (codes "counterexample") (letters_of verdict.counterexample) ++ shown (codes "example") (letters_of verdict.example))
