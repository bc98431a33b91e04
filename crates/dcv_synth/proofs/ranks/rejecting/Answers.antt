use Rattle.std.proofs.Common.{◌≡◌, ◌∙◌, length, not, ap, sym, subst, arith}
use Rattle.dcv_dfa.specs.Raw.{automaton_of}
use Rattle.dcv_synth.specs.Ranked.{lost_within}
use Rattle.dcv_synth.proofs.Ranking.{or_none}
use Rattle.dcv_synth.proofs.RowRanks.{lost_more}
use Rattle.dcv_synth.proofs.ranks.rejecting.Goals as goal

pub loop-state-preserved : goal.loop-state-preserved
loop-state-preserved c = λ n m.
    let raw = c.args.auto.now in
    lost_more n m (automaton_of raw) c.loop-state.state 0 c.loop-state.lost.items c.push.new.self.items (not c.accepting.result) (c.loop-state.invariant n m) c.in_ok-push.ensures.items
    (ap not c.accepting.ensures ∙ sym (or_none (not ((automaton_of raw).accepting c.loop-state.state))))

pub returns : goal.returns
returns c = λ n m.
    let raw = c.args.auto.now in
    let all : c.loop-state.state ≡ length raw.rows = omega (arith, c.loop-state-test.false, c.loop-state.auto.state-end, c.states-state-end.ensures.states) in
    subst (λ states. c.loop-state.lost.items ≡ lost_within n m (automaton_of raw) states 0) all (c.loop-state.invariant n m)
