use Rattle.std.proofs.Common.{◌≡◌, ◌-◌, true, None, IfSome, IfNone, sym, ap, subst, ◌∙◌}
use Rattle.std.proofs.lemmas.Bool.{true≢false}
use Rattle.dcv_dfa.specs.Raw.{automaton_of}
use Rattle.dcv_synth.specs.Winning.{is_held}
use Rattle.dcv_synth.specs.Ranked.{rank_at, win_by}
use Rattle.dcv_synth.specs.Outcome.{IsUnrealisable}
use Rattle.dcv_synth.proofs.deciding.synth.Goals as goal

pub returns-in-Some-clause-realisable : goal.returns-in-Some-clause-realisable
returns-in-Some-clause-realisable c =
    let raw = c.args.auto.now in
    let n = c.args.inputs in
    let m = raw.arena.slots - n in
    let unrealisable = subst (λ found. IfSome found (IsUnrealisable n m (automaton_of raw))) c.in-Some.is c.in_ok-strategy.ensures.strategy in
    (λ e. absurd (true≢false (sym e)), λ realisable. absurd (c.one_side_is_right.ensures n m (automaton_of raw) c.in-Some.strategy realisable unrealisable))

pub control-requires-clause-held : goal.control-requires-clause-held
control-requires-clause-held c =
    let raw = c.args.auto.now in
    let n = c.args.inputs in
    let m = raw.arena.slots - n in
    let ranks = c.in_ok-ranks.ranks.items in
    let none = subst (λ found. IfNone found (rank_at c.deref.result.now raw.start ≡ None)) c.in-None.is c.in_ok-strategy.ensures.none in
    let held = c.in_ok-ranks.ensures.held raw.start c.states-states.ensures.raw.start (ap (λ list. rank_at list raw.start) (sym c.deref.ensures.value) ∙ none) in
    subst (λ list. is_held n m (automaton_of raw) (win_by (automaton_of raw) list) raw.start ≡ true) (sym c.deref-in-None.ensures.value) held

pub returns-clause-wins : goal.returns-clause-wins
returns-clause-wins c =
    let raw = c.args.auto.now in
    c.controls_win.ensures c.args.inputs (raw.arena.slots - c.args.inputs) (automaton_of raw) c.in_ok-control-in-None.field-0 c.states-states.ensures.auto.start
    c.in_ok-control-in-None.ensures.control
