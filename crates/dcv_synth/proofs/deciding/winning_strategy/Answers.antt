use Rattle.std.proofs.Common.{◌≡◌, ◌-◌, ◌<◌, ◌∙◌, length, ap, sym, subst, arith}
use Rattle.dcv_dfa.specs.Raw.{RawValue, automaton_of}
use Rattle.dcv_synth.specs.Ranked.{rank_at, IsRanked}
use Rattle.dcv_synth.specs.Outcome.{IsUnrealisable}
use Rattle.dcv_synth.proofs.Listed.{listed_moves_so}
use Rattle.dcv_synth.proofs.deciding.winning_strategy.Goals as goal
use Rattle.dcv_synth.proofs.deciding.winning_strategy.Goals.{In_ok-moves}

pub returns-in_default-clause-none : goal.returns-in_default-clause-none
returns-in_default-clause-none c =
    let raw = c.args.auto.now in
    let same : c.start-start.result ≡ raw.start = c.start-start.ensures.start ∙ ap (λ (r : RawValue). r.start) c.raw.ensures.raw in
    sym (c.rank_of.ensures ∙ ap (rank_at c.args.ranks.now) same) ∙ c.in_default.is

unrealisable : (c : In_ok-moves) → IsUnrealisable c.args.inputs (c.args.auto.now.arena.slots - c.args.inputs) (automaton_of c.args.auto.now)
    (record { bound = c.in-Some.ranked.rank; moves = c.in_ok-moves.moves })
unrealisable c =
    let raw = c.args.auto.now in
    let n = c.args.inputs in
    let m = raw.arena.slots - n in
    let ranks = c.args.ranks.now in
    let same : c.start-start.result ≡ raw.start = c.start-start.ensures.start ∙ ap (λ (r : RawValue). r.start) c.raw.ensures.raw in
    let rows : length c.raw.result.now.rows ≡ length raw.rows = ap (λ (r : RawValue). length r.rows) c.raw.ensures.raw in
    let within : c.start-start.result < length raw.rows = omega (arith, c.start-start.ensures.state, rows) in
    let some = sym (c.rank_of.ensures ∙ ap (rank_at ranks) same) ∙ c.in-Some.is in
    let ranked = subst (IsRanked n m (automaton_of raw) raw.start) some (c.requires.each raw.start (subst (λ state. state < length raw.rows) same within)) in
    record {
      bound = ranked.0;
      moves = c.in_ok-moves.ensures n m
          c.requires;
    }

pub returns-clause-strategy : goal.returns-clause-strategy
returns-clause-strategy c = unrealisable (goal.at.returns-clause-strategy c).In_ok-moves

pub returns-clause-beats : goal.returns-clause-beats
returns-clause-beats c =
    let raw = c.args.auto.now in
    let n = c.args.inputs in
    let m = raw.arena.slots - n in
    let is = unrealisable (goal.at.returns-clause-beats c).In_ok-moves in
    c.least_moves_beat.ensures n m (automaton_of raw) _ c.in-Some.ranked.rank (listed_moves_so n m (automaton_of raw) c.in_ok-moves.moves.items is.moves) is.bound
