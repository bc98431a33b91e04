use Rattle.std.proofs.Common.{◌≡◌, ◌↔◌, ℕ, suc, ◌+◌, ◌-◌, ◌<◌, List, length, Option, Contains, sym, subst, ap, ◌∙◌, arith}
use Rattle.std.specs.List.{All}
use Rattle.std.proofs.lemmas.List.FromFn.{length-map-range_with_len}
use Rattle.dcv_arena.specs.Arena.{ArenaValue, IsArena}
use Rattle.dcv_arena.specs.declared.nodes.Ref.TheVariants.{Place}
use Rattle.dcv_dfa.specs.Raw.{automaton_of}
use Rattle.dcv_refinement.specs.Leads.{IndexedRows, index_of, LeadsInto, IsRowInto}
use Rattle.dcv_synth.specs.Winning.{is_lost, is_beaten}
use Rattle.dcv_synth.specs.Forced.{HasLost, AreAllForced}
use Rattle.dcv_synth.specs.Ranked.{AreRankedWithin, AreUnranked, HasForced, IsStanding}
use Rattle.dcv_synth.specs.declared.ranks.Ranked.{Ranked}
use Rattle.dcv_synth.proofs.RowRanks.{has_forced}
use Rattle.dcv_synth.proofs.Rounds.{lost_next, unlooked, apart_places, marked_within, written_back}
use Rattle.dcv_synth.proofs.ranks.Standing.advance.Goals as goal
use Rattle.dcv_synth.proofs.ranks.Standing.advance.Goals.{After-as_slice, After-deref_mut}

-- ---- what was found above

arena_is : (c : After-as_slice) → c.args.index.now.arena ≡ c.args.self.now.forcing.arena.now
arena_is c = ap (λ (index : IndexedRows). index.arena) c.requires.index ∙ sym c.requires.standing.forced.arena

marked : (c : After-as_slice) → (place : ℕ) → Contains c.as_slice.result.now place ↔ LeadsInto c.args.index.now c.deref-2.result.now (Place place)
marked c =
    subst (λ (lists : List ℕ × List ℕ). (place : ℕ) → Contains lists.0 place ↔ LeadsInto c.args.index.now lists.1 (Place place))
    (λ i. (sym c.as_slice.ensures i, (c.deref.ensures.value ∙ sym c.deref-2.ensures.value) i)) c.in_ok-above.ensures.nodes

pub lose-requires-clause-forced : goal.lose-requires-clause-forced
lose-requires-clause-forced c =
    let self = c.args.self.now.forcing in
    subst (λ (arena : ArenaValue). AreAllForced self.inputs arena self.lost.items self.forced.items) (sym c.requires.standing.forced.arena) c.requires.standing.forced.each

pub lose-requires-clause-within : goal.lose-requires-clause-within
lose-requires-clause-within c =
    let known = (goal.at.lose-requires-clause-within c).After-as_slice in
    marked_within c.args.self.now.forcing.arena.now c.args.index.now c.deref-2.result.now c.as_slice.result.now (arena_is known) (marked known)

pub lose-requires-clause-apart : goal.lose-requires-clause-apart
lose-requires-clause-apart c =
    let known = (goal.at.lose-requires-clause-apart c).After-as_slice in
    let raw = c.args.auto.now in
    let forcing = c.args.self.now.forcing in
    let lost = is_lost (automaton_of raw) (is_beaten forcing.inputs (raw.arena.slots - forcing.inputs) (automaton_of raw) c.args.self.now.bound) in
    let size : length c.args.index.now.rows ≡ length forcing.lost.items =
    ap (λ (index : IndexedRows). length index.rows) c.requires.index ∙ sym (ap length c.requires.standing.forced.lost ∙ length-map-range_with_len lost 0 (length raw.rows)) in
    apart_places forcing.arena.now c.args.index.now c.deref-2.result.now c.as_slice.result.now (length forcing.lost.items)
    (subst IsArena (sym c.requires.standing.forced.arena) c.requires.standing.forced.raw_is.arena) (arena_is known) size (marked known)

-- ---- the next round

forced_next : (c : After-deref_mut) → HasForced c.args.auto.now (suc c.args.self.now.bound) c.lose.new.self
forced_next c =
    let raw = c.args.auto.now in
    let old = c.args.self.now.forcing in
    let standing = c.requires.standing in
    let did = c.in_ok-lose.ensures in
    let new = c.lose.new.self in
    let arena : new.arena.now ≡ raw.arena = c.lose.ensures.arena ∙ standing.forced.arena in
    let has = subst (λ states. HasLost old.lost.items states new.lost.items) c.deref-2.ensures.value did.lost in
    has_forced old.inputs raw (suc c.args.self.now.bound) new.lost.items new standing.forced.raw_is standing.forced.inputs arena c.lose.ensures.inputs (λ i. new.lost.items)
    (lost_next old.inputs raw c.args.self.now.bound c.args.self.now.beaten.items standing.beaten_are standing.forced.raw_is old.lost.items new.lost.items has standing.forced.lost)
    (subst (λ (parts : ℕ × ArenaValue). AreAllForced parts.0 parts.1 new.lost.items new.forced.items) (λ i. (c.lose.ensures.inputs i, arena i)) did.forced)

looked : (c : After-deref_mut) → (row : ℕ) → Contains c.deref-3.result.now row ↔ IsRowInto (index_of c.args.auto.now.arena c.args.auto.now.rows) c.args.self.now.beaten.items row
looked c =
    subst (λ (parts : List ℕ × IndexedRows × List ℕ). (row : ℕ) → Contains parts.0 row ↔ IsRowInto parts.1 parts.2 row)
    (λ i. (sym c.deref-3.ensures.value i, c.requires.index i, c.deref.ensures.value i)) c.in_ok-above.ensures.rows

next_is : (bound : ℕ) → suc bound ≡ bound + 1
next_is bound = omega arith

pub rank_each-requires-clause-forced : goal.rank_each-requires-clause-forced
rank_each-requires-clause-forced c =
    subst (λ bound. HasForced c.args.auto.now bound c.lose.new.self) (next_is c.args.self.now.bound) (forced_next (goal.at.rank_each-requires-clause-forced c).After-deref_mut)

pub rank_each-requires-clause-looked : goal.rank_each-requires-clause-looked
rank_each-requires-clause-looked c =
    subst (λ (parts : List ℕ × IndexedRows). All (λ row. row < length parts.1.rows) parts.0) (λ i. (sym c.deref-3.ensures.value i, c.requires.index i)) c.in_ok-above.ensures.below

pub rank_each-requires-clause-others : goal.rank_each-requires-clause-others
rank_each-requires-clause-others c =
    let raw = c.args.auto.now in
    let n = c.args.self.now.forcing.inputs in
    let standing = c.requires.standing in
    subst (λ (parts : ℕ × ℕ). AreUnranked parts.0 (raw.arena.slots - parts.0) (automaton_of raw) (length raw.rows) parts.1 c.deref-3.result.now)
    (λ i. (sym c.lose.ensures.inputs i, next_is c.args.self.now.bound i))
    (unlooked n raw c.args.self.now.bound c.args.self.now.beaten.items standing.beaten_are standing.forced.raw_is c.deref-3.result.now
    (looked (goal.at.rank_each-requires-clause-others c).After-deref_mut))

pub rank_each-requires-clause-ranks : goal.rank_each-requires-clause-ranks
rank_each-requires-clause-ranks c =
    let raw = c.args.auto.now in
    subst (λ (parts : ℕ × ℕ × List (Option Ranked)). AreRankedWithin parts.0 (raw.arena.slots - parts.0) (automaton_of raw) (length raw.rows) parts.1 parts.2)
    (λ i. (sym c.lose.ensures.inputs i, next_is c.args.self.now.bound i, sym c.deref_mut.ensures.value i)) c.requires.standing.ranks_are

pub returns-clause-standing : goal.returns-clause-standing
returns-clause-standing c =
    let raw = c.args.auto.now in
    let bound = c.args.self.now.bound in
    let next = next_is bound in
    let n = c.lose.new.self.inputs in
    let old = c.args.self.now.ranks in
    let new = c.rank_each.new.ranks in
    let did = c.in_ok-self.ensures in
    let same : length new ≡ length old.items = did.ranks.count ∙ sym c.requires.standing.ranks_are.count in
    subst (λ list. IsStanding raw (suc bound) c.lose.new.self list c.in_ok-self.field-0.items) (sym (written_back new old.items old.len same old.ok.0))
    (subst (λ bound. IsStanding raw bound c.lose.new.self new c.in_ok-self.field-0.items) (sym next) (record {
      forced = subst (λ bound. HasForced raw bound c.lose.new.self) next (forced_next (goal.at.returns-clause-standing c).After-deref_mut);
      ranks_are = did.ranks;
      beaten_are = did.beaten;
    }))
