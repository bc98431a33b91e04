use Rattle.std.proofs.Common.{Bool, List, ◌++◌, ◌∷◌, [], ap}
use Rattle.dcv_word.specs.TraceLine.{trace_line, line_feed}
use Rattle.dcv_io.proofs.Putting.{puts_one_more, puts_nothing, puts_both, puts_same}
use Rattle.dcv_print.proofs.verdict_lines.put_letters.Goals as goal

pub loop-letter-preserved : goal.loop-letter-preserved
loop-letter-preserved g c =
    let spelled : List Bool → List _ = λ letter. trace_line letter ++ line_feed ∷ [] in
    puts_one_more spelled c.args.letters.now c.loop-letter.letter-index c.letter-item.result _ _ _ c.loop-letter-test.true c.loop-letter.invariant
    (puts_same _ _ _ _ (puts_both _ _ _ _ _ c.put_letter.ensures c.put.ensures) (ap spelled c.letter-item.is))

pub loop-letter-init : goal.loop-letter-init
loop-letter-init g c = puts_nothing _
