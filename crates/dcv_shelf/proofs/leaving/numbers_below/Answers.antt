use Rattle.std.proofs.Common.{◌++◌, ◌∷◌, [], sym, ◌∙◌}
use Rattle.dcv_shelf.proofs.CopiedRows.{one_number_more}
use Rattle.dcv_shelf.proofs.leaving.numbers_below.Goals as goal

pub loop-number-preserved : goal.loop-number-preserved
loop-number-preserved c =
    c.in_ok-push.ensures.items ∙ (λ i. c.loop-number.invariant i ++ c.loop-number.number ∷ []) ∙ sym (one_number_more c.loop-number.number)
