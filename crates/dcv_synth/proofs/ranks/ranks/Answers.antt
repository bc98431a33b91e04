use Rattle.std.proofs.Common.{◌≡◌, ◌-◌, ◌<◌, nat_eq, length, sym, subst, ap, ◌∙◌, arith}
use Rattle.std.proofs.lemmas.List.FromFn.{length-map-range_with_len}
use Rattle.dcv_dfa.specs.Raw.{RawValue, automaton_of}
use Rattle.dcv_refinement.specs.Leads.{index_of}
use Rattle.dcv_synth.specs.Winning.{is_lost, is_beaten}
use Rattle.dcv_synth.specs.Ranked.{IsStanding}
use Rattle.dcv_synth.proofs.Ranking.{count_kept, kept_within}
use Rattle.dcv_synth.proofs.Rounds.{fewer_next, rounds_rank, rounds_win, rounds_hold}
use Rattle.dcv_synth.proofs.ranks.ranks.Goals as goal
use Rattle.dcv_synth.proofs.ranks.ranks.Goals.{In_ok-advance}

pub rounds-init : goal.rounds-init
rounds-init c =
    let raw = c.args.auto.now in
    let first = c.in_ok-standing.ensures in
    let standing = c.in_ok-standing.standing in
    let lost = is_lost (automaton_of raw) (is_beaten standing.forcing.inputs (raw.arena.slots - standing.forcing.inputs) (automaton_of raw) 0) in
    let few : length standing.forcing.lost.items ≡ length raw.rows = ap length first.standing.forced.lost ∙ length-map-range_with_len lost 0 (length raw.rows) in (
      subst (λ bound. IsStanding raw bound standing.forcing standing.ranks.items standing.beaten.items) (sym first.bound) first.standing,
      first.inputs,
      omega (arith, first.bound, few, kept_within standing.forcing.lost.items),
    )

pub advance-requires-clause-bound : goal.advance-requires-clause-bound
advance-requires-clause-bound c = omega (arith, c.rounds.invariant.2, c.requires.few)

pub advance-requires-clause-index : goal.advance-requires-clause-index
advance-requires-clause-index c =
    let raw = c.raw.ensures.raw in
    c.in_ok-index.ensures
    ∙ (λ i. index_of (c.arena.ensures.arena i) ((c.rows.ensures.rows ∙ ap (λ (raw : RawValue). raw.rows) raw) i))

fewer : (c : In_ok-advance) → count_kept c.advance.new.self.forcing.lost.items < count_kept c.rounds.standing.forcing.lost.items
fewer c =
    let old = c.rounds.standing in
    let new = c.advance.new.self in
    let did = c.in_ok-advance.ensures in
    fewer_next c.args.auto.now old.bound old.forcing new.forcing old.ranks.items new.ranks.items old.beaten.items new.beaten.items c.rounds.invariant.0 did.standing did.inputs
    (sym (c.is_empty.ensures ∙ ap (λ count. nat_eq count 0) old.beaten.ok.0) ∙ c.rounds-test.true)

pub rounds-smaller : goal.rounds-smaller
rounds-smaller c = fewer (goal.at.rounds-smaller c).In_ok-advance

pub rounds-preserved : goal.rounds-preserved
rounds-preserved c =
    let new = c.advance.new.self in
    let did = c.in_ok-advance.ensures in (
      subst (λ bound. IsStanding c.args.auto.now bound new.forcing new.ranks.items new.beaten.items) (sym did.bound) did.standing,
      did.inputs ∙ c.rounds.invariant.1,
      omega (arith, did.bound, fewer (goal.at.rounds-preserved c).In_ok-advance, c.rounds.invariant.2),
    )

pub returns-clause-ranks : goal.returns-clause-ranks
returns-clause-ranks c =
    let standing = c.rounds.standing in
    rounds_rank c.args.inputs c.args.auto.now standing.bound standing.forcing standing.ranks.items standing.beaten.items c.rounds.invariant.0 c.rounds.invariant.1
    (sym (c.is_empty.ensures ∙ ap (λ count. nat_eq count 0) standing.beaten.ok.0) ∙ c.rounds-test.false)

pub returns-clause-win : goal.returns-clause-win
returns-clause-win c =
    let standing = c.rounds.standing in
    rounds_win c.args.inputs c.args.auto.now standing.bound standing.forcing standing.ranks.items standing.beaten.items c.rounds.invariant.0 c.rounds.invariant.1
    (sym (c.is_empty.ensures ∙ ap (λ count. nat_eq count 0) standing.beaten.ok.0) ∙ c.rounds-test.false)

pub returns-clause-held : goal.returns-clause-held
returns-clause-held c =
    let standing = c.rounds.standing in
    rounds_hold c.args.inputs c.args.auto.now standing.bound standing.forcing standing.ranks.items standing.beaten.items c.rounds.invariant.0 c.rounds.invariant.1
    (sym (c.is_empty.ensures ∙ ap (λ count. nat_eq count 0) standing.beaten.ok.0) ∙ c.rounds-test.false)
