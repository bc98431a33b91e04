use Rattle.std.proofs.Common.{◌-◌, suc, length, drop, get_or, ◌+◌, is_some, ap, sym, subst, ◌∙◌}
use Rattle.std.proofs.lemmas.Bool.{false≢true}
use Rattle.std.proofs.lemmas.List.{drop_more}
use Rattle.std.proofs.Math.ListN.{drop_of_length-le}
use Rattle.dcv_dfa.specs.Raw.{automaton_of}
use Rattle.dcv_synth.specs.Ranked.{rank_at, IsDecided, AreRankedWithin, AreNew}
use Rattle.dcv_synth.proofs.RowRanks.{not_yet, accepting_within}
use Rattle.dcv_synth.proofs.OneRound.{IsRound, round_begins, decided, round_passes, round_adds, round_ends}
use Rattle.dcv_synth.proofs.ranks.rank_each.Goals as goal
use Rattle.dcv_synth.proofs.ranks.rank_each.Goals.{then-rank_one+in_ok-push, else-rank_one, After-loop-state, After-rank_one}

pub loop-state-init : goal.loop-state-init
loop-state-init c =
    let raw = c.args.auto.now in
    let n = c.args.forcing.now.inputs in
    let m = raw.arena.slots - n in
    subst (λ beaten. IsRound n m (automaton_of raw) (length raw.rows) c.args.bound c.args.ranks.now beaten c.args.looked.now) (sym c.new-beaten.ensures.items)
    (round_begins n m (automaton_of raw) (length raw.rows) c.args.bound c.args.ranks.now c.args.looked.now c.requires.ranks c.requires.others)

pub rank_one-requires-clause-before : goal.rank_one-requires-clause-before
rank_one-requires-clause-before c =
    let raw = c.args.auto.now in
    let n = c.args.forcing.now.inputs in
    let state = get_or c.args.looked.now c.loop-state.state-index 0 in
    decided n (raw.arena.slots - n) (automaton_of raw) (length raw.rows) c.args.bound c.loop-state.ranks c.loop-state.beaten.items (drop c.loop-state.state-index c.args.looked.now) state
    c.loop-state.invariant (c.requires.looked c.loop-state.state-index 0 c.loop-state-test.true)

pub loop-state-preserved : goal.loop-state-preserved
loop-state-preserved c =
    let raw = c.args.auto.now in
    let n = c.args.forcing.now.inputs in
    let m = raw.arena.slots - n in
    let automaton = automaton_of raw in
    let states = length raw.rows in
    let bound = c.args.bound in
    let looked = c.args.looked.now in
    let index = c.loop-state.state-index in
    let state = get_or looked index 0 in
    let rest = drop (index + 1) looked in
    let old = c.loop-state.ranks in
    let new = c.rank_one.new.ranks in
    let beaten = c.loop-state.beaten.items in
    let within = c.requires.looked index 0 c.loop-state-test.true in
    let known : IsDecided n m automaton bound state (rank_at old state) = decided n m automaton states bound old beaten (drop index looked) state c.loop-state.invariant within in
    let left = subst (IsRound n m automaton states bound old beaten) (drop_more looked index 0 c.loop-state-test.true) c.loop-state.invariant in
    let did = c.rank_one.ensures in
    elim c.if-rank_one.branch [
      | then-rank_one+in_ok-push w ↦
          let just = did.result.0 w.if-rank_one.true in
          subst (λ list. IsRound n m automaton states bound new list rest) (sym (ap (λ list. list.items) w.beaten-is ∙ w.in_ok-push.ensures.items))
          (round_adds n m automaton states bound old new beaten rest state left within did.count did.others did.own just
          (not_yet n m automaton bound state (rank_at old state) (ap is_some just.unranked) known))
      | else-rank_one w ↦
          subst (λ list. IsRound n m automaton states bound new list rest) (sym (ap (λ list. list.items) w.beaten-is))
          (round_passes n m automaton states bound old new beaten rest state left within did.count did.others did.own
          (λ just. false≢true (sym w.if-rank_one.false ∙ did.result.1 just)))
    ]

ended : (c : After-loop-state) → AreRankedWithin c.args.forcing.now.inputs (c.args.auto.now.arena.slots - c.args.forcing.now.inputs) (automaton_of c.args.auto.now)
    (length c.args.auto.now.rows) (suc c.args.bound) c.loop-state.ranks
    × AreNew c.args.forcing.now.inputs (c.args.auto.now.arena.slots - c.args.forcing.now.inputs) (automaton_of c.args.auto.now) c.args.bound c.loop-state.beaten.items
ended c =
    let raw = c.args.auto.now in
    let n = c.args.forcing.now.inputs in
    let m = raw.arena.slots - n in
    let none = drop_of_length-le c.args.looked.now c.loop-state-test.false in
    round_ends n m (automaton_of raw) (length raw.rows) c.args.bound c.loop-state.ranks c.loop-state.beaten.items
    (subst (IsRound n m (automaton_of raw) (length raw.rows) c.args.bound c.loop-state.ranks c.loop-state.beaten.items) none c.loop-state.invariant)
    (λ state accepts. accepting_within raw state c.requires.forced.raw_is.flags accepts)

pub returns-clause-ranks : goal.returns-clause-ranks
returns-clause-ranks c = (ended ((goal.at.returns-clause-ranks c).After-loop-state)).0

pub returns-clause-beaten : goal.returns-clause-beaten
returns-clause-beaten c = (ended ((goal.at.returns-clause-beaten c).After-loop-state)).1
