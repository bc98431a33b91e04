use Rattle.std.proofs.Common.{◌≡◌, ◌∙◌, length, map, ap, arith}
use Rattle.std.specs.List.{range_with_len}
use Rattle.dcv_dfa.specs.Raw.{automaton_of}
use Rattle.dcv_synth.specs.Ranked.{win_by}
use Rattle.dcv_synth.proofs.Won.{won_by_list, won_more}
use Rattle.dcv_synth.proofs.controlling.win_of.Goals as goal

pub returns : goal.returns
returns c state =
    let raw = c.args.auto.now in
    let all : c.loop-state.state ≡ length raw.rows = omega (arith, c.loop-state-test.false, c.loop-state.auto.state-end, c.states-state-end.ensures.states) in
    won_by_list raw c.args.ranks.now c.loop-state.win.items state c.states-state-end.ensures.raw.flags
    (c.loop-state.invariant ∙ ap (λ states. map (win_by (automaton_of raw) c.args.ranks.now) (range_with_len 0 states)) all)

pub loop-state-preserved : goal.loop-state-preserved
loop-state-preserved c =
    won_more (win_by (automaton_of c.args.auto.now) c.args.ranks.now) c.loop-state.state c.loop-state.win.items c.push.new.self.items c.is_won.result
    c.loop-state.invariant c.in_ok-push.ensures.items c.is_won.ensures
