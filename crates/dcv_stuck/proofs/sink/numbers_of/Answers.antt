use Rattle.std.proofs.Common.{◌≡◌, ◌++◌, ◌∷◌, [], length, ap, sym, ◌∙◌, arith}
use Rattle.std.proofs.lemmas.List.FromFn.{map-range_with_len_more}
use Rattle.dcv_stuck.specs.Sink.{number_in, numbers_of}
use Rattle.dcv_stuck.proofs.sink.numbers_of.Goals as goal

pub loop-state-preserved : goal.loop-state-preserved
loop-state-preserved c =
    let state = c.loop-state.state in
    c.in_ok-push.ensures.items ∙ (λ i. c.loop-state.invariant i ++ c.number_in.ensures i ∷ [])
    ∙ sym (map-range_with_len_more (number_in c.args.raw.now) 0 state state (omega arith))

pub returns : goal.returns
returns c =
    let raw = c.args.raw.now in
    let all : c.loop-state.state ≡ length raw.rows = omega (arith, c.loop-state-test.false, c.loop-state.auto.state-end, c.states-state-end.ensures.states) in
    c.loop-state.invariant ∙ ap (numbers_of raw) all
