use Rattle.std.proofs.Common.{◌++◌, [], ◌∷◌, ap, sym, ◌∙◌, arith}
use Rattle.dcv_synth.proofs.RowRanks.{range_more}
use Rattle.dcv_synth.proofs.ranks.all_states.Goals as goal

pub loop-state-preserved : goal.loop-state-preserved
loop-state-preserved c =
    let state = c.loop-state.state in
    c.in_ok-push.ensures.items ∙ ap (λ states. states ++ state ∷ []) c.loop-state.invariant ∙ sym (range_more 0 state state (omega arith))
