use Rattle.std.proofs.Common.{◌≡◌, ◌∙◌, sym, ap, cond, [], ◌∷◌, ◌++◌, length, arith}
use Rattle.std.specs.List.{filter, range_with_len}
use Rattle.dcv_dfa.specs.Raw.{RawValue}
use Rattle.dcv_synth.specs.Listing.{starts_or_wins}
use Rattle.dcv_synth.proofs.Keeping.{kept_more}
use Rattle.dcv_synth.proofs.controlling.states_of.Goals as goal

pub loop-state-preserved : goal.loop-state-preserved
loop-state-preserved c =
    let state = c.loop-state.state in
    c.in_ok-add.ensures
    ∙ (λ i. c.loop-state.invariant i ++ cond (c.is_kept.ensures i) (state ∷ []) [])
    ∙ sym (kept_more (starts_or_wins c.start-start.result c.args.win.now) state)

pub returns : goal.returns
returns c =
    let raw = c.args.auto.now in
    let all : c.loop-state.state ≡ length raw.rows = omega (arith, c.loop-state-test.false, c.loop-state.auto.state-end, c.states-state-end.ensures.states) in
    let start : c.start-start.result ≡ raw.start = c.start-start.ensures.start ∙ ap (λ (r : RawValue). r.start) c.raw.ensures.raw in
    c.loop-state.invariant ∙ (λ i. filter (starts_or_wins (start i) c.args.win.now) (range_with_len 0 (all i)))
