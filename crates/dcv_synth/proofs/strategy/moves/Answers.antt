use Rattle.std.proofs.Common.{◌≡◌, ◌+◌, ◌<◌, ◌∙◌, None, false, length, sym, subst, arith}
use Rattle.std.proofs.lemmas.List.{get_or_past, get_or_default}
use Rattle.dcv_dfa.specs.Raw.{automaton_of}
use Rattle.dcv_synth.specs.Ranked.{rank_at, IsRanked}
use Rattle.dcv_synth.specs.Listing.{AreMovesBelow}
use Rattle.dcv_synth.proofs.Listed.{listed_more, all_listed}
use Rattle.dcv_synth.proofs.strategy.moves.Goals as goal

pub loop-state-preserved : goal.loop-state-preserved
loop-state-preserved c n m ranked =
    let raw = c.args.auto.now in
    let state = c.loop-state.state in
    let within : state < length raw.rows = omega (arith, c.loop-state-test.true, c.loop-state.auto.state-end, c.states-state-end.ensures.states) in
    let entry : rank_at c.args.ranks.now state ≡ c.index-ranks-state.result =
    get_or_default c.args.ranks.now state None c.index-ranks-state.result (omega (arith, within, ranked.count)) ∙ sym c.index-ranks-state.is in
    subst (AreMovesBelow n m (automaton_of raw) (state + 1)) (sym c.in_ok-add.ensures)
    (listed_more n m (automaton_of raw) state c.loop-state.moves.items c.move_at.result (c.loop-state.invariant n m ranked)
    (c.move_at.ensures n m (subst (IsRanked n m (automaton_of raw) state) entry (ranked.each state within))))

pub returns : goal.returns
returns c n m ranked =
    let raw = c.args.auto.now in
    let is = c.states-state-end.ensures.raw in
    let all : c.loop-state.state ≡ length raw.rows = omega (arith, c.loop-state-test.false, c.loop-state.auto.state-end, c.states-state-end.ensures.states) in
    all_listed n m (automaton_of raw) (length raw.rows) c.loop-state.moves.items is.start
    (λ state past. get_or_past raw.accepting state false (omega (arith, past, is.flags)))
    (subst (λ states. AreMovesBelow n m (automaton_of raw) states c.loop-state.moves.items) all (c.loop-state.invariant n m ranked))
