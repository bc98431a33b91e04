use Rattle.std.proofs.Common.{◌≡◌, ◌∙◌, ◌-◌, ◌+◌, suc, true, false, Option, Some, None, is_some, refl, sym, ap, subst, arith}
use Rattle.std.proofs.lemmas.Bool.{true≢false, false≢true}
use Rattle.std.proofs.lemmas.List.{get_or_default, get_or-set_same}
use Rattle.dcv_dfa.specs.Raw.{automaton_of}
use Rattle.dcv_synth.specs.Winning.{is_beaten, IsRank, move_of}
use Rattle.dcv_synth.specs.Ranked.{rank_at, IsRankedWithin}
use Rattle.dcv_synth.specs.declared.ranks.Ranked.{Ranked}
use Rattle.dcv_synth.proofs.RowRanks.{row_forced, row_move, not_yet, not_later, kept, new_rank}
use Rattle.dcv_synth.proofs.ranks.rank_one.Goals as goal
use Rattle.dcv_synth.proofs.ranks.rank_one.Goals.{After-is_some, After-is_forced}

-- whether the state has an entry
entry_is : (c : After-is_some) → is_some (rank_at c.args.ranks.now c.args.state) ≡ c.is_some.result
entry_is c =
    ap is_some (get_or_default c.args.ranks.now c.args.state None c.index-ranks-state.result (omega (arith, c.requires.state, c.requires.count)))
    ∙ sym c.is_some.ensures

-- whether it is beaten within one letter more
beaten_is : (c : After-is_forced) → is_beaten c.args.forcing.now.inputs (c.args.auto.now.arena.slots - c.args.forcing.now.inputs) (automaton_of c.args.auto.now) (suc c.args.bound) c.args.state
    ≡ c.is_forced.result
beaten_is c =
    sym (row_forced c.args.auto.now c.args.bound c.args.forcing.now c.requires.forced c.args.state c.row-row.result c.row-row.ensures.row c.row-row.ensures.is_ref)
    ∙ sym c.is_forced.ensures

never_new : (entry : Option Ranked) → is_some entry ≡ true → (entry ≡ None) → false ≡ true
never_new None e is = e
never_new (Some ranked) e is = absurd cc

pub returns-then-is_some-clause-own : goal.returns-then-is_some-clause-own
returns-then-is_some-clause-own c =
    let n = c.args.forcing.now.inputs in
    kept n (c.args.auto.now.arena.slots - n) (automaton_of c.args.auto.now) c.args.bound c.args.state (rank_at c.args.ranks.now c.args.state)
    (entry_is ((goal.at.returns-then-is_some-clause-own c).After-is_some) ∙ c.if-is_some.true) c.requires.before

pub returns-then-is_some-clause-result : goal.returns-then-is_some-clause-result
returns-then-is_some-clause-result c = (
  λ never. absurd (false≢true never),
  λ just. never_new (rank_at c.args.ranks.now c.args.state) (entry_is ((goal.at.returns-then-is_some-clause-result c).After-is_some) ∙ c.if-is_some.true) just.unranked,
)

pub returns-then-not-is_forced-clause-own : goal.returns-then-not-is_forced-clause-own
returns-then-not-is_forced-clause-own c =
    let n = c.args.forcing.now.inputs in
    not_later n (c.args.auto.now.arena.slots - n) (automaton_of c.args.auto.now) c.args.bound c.args.state (rank_at c.args.ranks.now c.args.state)
    (entry_is ((goal.at.returns-then-not-is_forced-clause-own c).After-is_some) ∙ c.if-is_some.false)
    (beaten_is ((goal.at.returns-then-not-is_forced-clause-own c).After-is_forced) ∙ c.if-not-is_forced.true)

pub returns-then-not-is_forced-clause-result : goal.returns-then-not-is_forced-clause-result
returns-then-not-is_forced-clause-result c = (
  λ never. absurd (false≢true never),
  λ just. sym (sym just.beaten ∙ beaten_is ((goal.at.returns-then-not-is_forced-clause-result c).After-is_forced) ∙ c.if-not-is_forced.true),
)

pub returns-clause-own : goal.returns-clause-own
returns-clause-own c =
    let raw = c.args.auto.now in
    let forcing = c.args.forcing.now in
    let n = forcing.inputs in
    let m = raw.arena.slots - n in
    let bound = c.args.bound in
    let state = c.args.state in
    let next : suc bound ≡ bound + 1 = omega arith in
    let beaten : is_beaten n m (automaton_of raw) (suc bound) state ≡ true = beaten_is ((goal.at.returns-clause-own c).After-is_forced) ∙ c.if-not-is_forced.false in
    let unbeaten = not_yet n m (automaton_of raw) bound state (rank_at c.args.ranks.now state)
    (entry_is ((goal.at.returns-clause-own c).After-is_some) ∙ c.if-is_some.false) c.requires.before in
    subst (IsRankedWithin n m (automaton_of raw) (suc bound) state) (sym (get_or-set_same c.args.ranks.now state _ None (omega (arith, c.requires.state, c.requires.count)))) (
      beaten,
      (
        subst (λ rank. IsRank n m (automaton_of raw) state rank) next (new_rank n m (automaton_of raw) bound state unbeaten beaten),
        c.least_input.ensures ∙ row_move raw bound forcing c.requires.forced state c.row-row.result c.row-row.ensures.row c.row-row.ensures.is_ref
            ∙ ap (λ rank. move_of n m (automaton_of raw) rank state) next,
      ),
    )

none_is : (entry : Option Ranked) → is_some entry ≡ false → entry ≡ None
none_is None e = refl
none_is (Some ranked) e = absurd (true≢false e)

pub returns-clause-result : goal.returns-clause-result
returns-clause-result c = (
  λ accepts. record {
    accepts = sym c.accepting.ensures ∙ accepts;
    beaten = beaten_is ((goal.at.returns-clause-result c).After-is_forced) ∙ c.if-not-is_forced.false;
    unranked = none_is (rank_at c.args.ranks.now c.args.state) (entry_is ((goal.at.returns-clause-result c).After-is_some) ∙ c.if-is_some.false);
  },
  λ just. c.accepting.ensures ∙ just.accepts,
)
