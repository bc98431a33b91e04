use Rattle.std.proofs.Common.{◌≡◌, ◌-◌, ◌<◌, length, replicate, Option, None, sym, subst, ap, ◌∙◌, arith}
use Rattle.std.specs.List.{All}
use Rattle.dcv_arena.specs.Arena.{ArenaValue}
use Rattle.dcv_dfa.specs.Raw.{automaton_of}
use Rattle.dcv_synth.specs.Forced.{AreAllForced}
use Rattle.dcv_synth.specs.Ranked.{HasForced, AreRankedWithin, AreUnranked, IsStanding}
use Rattle.dcv_synth.specs.declared.ranks.Ranked.{Ranked}
use Rattle.dcv_synth.proofs.RowRanks.{has_forced}
use Rattle.std.proofs.lemmas.List.{length-replicate}
use Rattle.dcv_synth.proofs.Rounds.{only_none, none_ranked, all_looked, all_within, written_back}
use Rattle.dcv_synth.proofs.ranks.Standing.at_first.Goals as goal
use Rattle.dcv_synth.proofs.ranks.Standing.at_first.Goals.{In_ok-ranks}

forced : (c : In_ok-ranks) → HasForced c.args.auto.now 0 c.in_ok-forcing.forcing
forced c =
    let raw = c.args.auto.now in
    let n = c.args.inputs in
    let made = c.in_ok-forcing.ensures in
    has_forced n raw 0 c.in_ok-lost.lost.items c.in_ok-forcing.forcing c.states.ensures.raw c.requires (made.arena ∙ c.arena.ensures.arena) made.inputs made.lost
    (c.in_ok-lost.ensures n (raw.arena.slots - n))
    (subst (λ (arena : ArenaValue). AreAllForced n arena c.in_ok-lost.lost.items c.in_ok-forcing.forcing.forced.items) c.arena.ensures.arena made.forced)

pub rank_each-requires-clause-forced : goal.rank_each-requires-clause-forced
rank_each-requires-clause-forced c = forced (goal.at.rank_each-requires-clause-forced c).In_ok-ranks

pub rank_each-requires-clause-ranks : goal.rank_each-requires-clause-ranks
rank_each-requires-clause-ranks c =
    let raw = c.args.auto.now in
    let n = c.in_ok-forcing.forcing.inputs in
    let items : c.in_ok-ranks.ranks.items ≡ replicate c.states.result None = c.in_ok-ranks.ensures.items_if_clones_equal (only_none _ (λ x is. is)) in
    subst (AreRankedWithin n (raw.arena.slots - n) (automaton_of raw) (length raw.rows) 0) (sym (c.deref_mut.ensures.value ∙ items ∙ ap (λ count. replicate count None) c.states.ensures.states))
    (none_ranked n (raw.arena.slots - n) (automaton_of raw) (length raw.rows))

pub rank_each-requires-clause-looked : goal.rank_each-requires-clause-looked
rank_each-requires-clause-looked c =
    let states = length c.args.auto.now.rows in
    subst (All (λ state. state < states)) (sym (c.deref.ensures.value ∙ c.in_ok-all.ensures)) (all_within states)

pub rank_each-requires-clause-others : goal.rank_each-requires-clause-others
rank_each-requires-clause-others c =
    let raw = c.args.auto.now in
    let n = c.in_ok-forcing.forcing.inputs in
    subst (AreUnranked n (raw.arena.slots - n) (automaton_of raw) (length raw.rows) 0) (sym (c.deref.ensures.value ∙ c.in_ok-all.ensures))
    (all_looked n (raw.arena.slots - n) (automaton_of raw) (length raw.rows) 0)

pub returns-clause-standing : goal.returns-clause-standing
returns-clause-standing c =
    let raw = c.args.auto.now in
    let new = c.rank_each.new.ranks in
    let ranks = c.in_ok-beaten.ensures.ranks in
    let items : c.in_ok-ranks.ranks.items ≡ replicate c.states.result None = c.in_ok-ranks.ensures.items_if_clones_equal (only_none _ (λ x is. is)) in
    let same : length new ≡ length c.in_ok-ranks.ranks.items =
    omega (arith, ranks.count, ap length items, length-replicate {A = Option Ranked} c.states.result None, c.states.ensures.states) in
    subst (λ list. IsStanding raw 0 c.in_ok-forcing.forcing list c.in_ok-beaten.beaten.items)
    (sym (written_back new c.in_ok-ranks.ranks.items c.in_ok-ranks.ranks.len same c.in_ok-ranks.ranks.ok.0))
    (record { forced = forced (goal.at.returns-clause-standing c).In_ok-ranks; ranks_are = ranks; beaten_are = c.in_ok-beaten.ensures.beaten })
