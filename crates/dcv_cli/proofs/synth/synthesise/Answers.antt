-- The strategy is right for the automaton's table.
use Rattle.dcv_cli.proofs.Common.{◌≤◌, ◌-◌, length, refl, ◌∙◌, subst, IsUnrealisable, Unrealisable}
use Rattle.dcv_dfa.specs.Raw.{automaton_of}
use Rattle.dcv_synth.specs.Outcome.{IfStrategy}
use Rattle.dcv_synth.specs.declared.deciding.Outcome.{Outcome}
use Rattle.dcv_cli.proofs.Syntheses.{divided, of_set, says_strategy}
use Rattle.dcv_cli.proofs.synth.synthesise.Goals as goal

pub returns-in-Strategy : goal.returns-in-Strategy
returns-in-Strategy c k L of =
    let n = c.args.inputs in
    let raw = c.args.built.now.auto in
    let some = (divided n (length c.args.names.now) c.requires.divided).some in
    let within : n ≤ k = subst (λ count. n ≤ count) (c.requires.printable.slots ∙ of.slots) some in
    let strategy = subst (λ (outcome : Outcome). IfStrategy outcome (IsUnrealisable n (raw.arena.slots - n) (automaton_of raw))) c.in-Strategy.is
    c.in_ok-control.ensures.strategy in
    Unrealisable
    (says_strategy c.answers_are_of_tables.ensures.tables n (k - n) L raw (of_set n k L raw c.states.ensures.raw c.states.ensures.auto.start within of)
    c.answers_are_of_tables.ensures.strategies c.strategies_beat.ensures c.winners_of_same_behaviours.ensures.beats c.in-Strategy.strategy
    (subst (λ count. IsUnrealisable n (count - n) (automaton_of raw) c.in-Strategy.strategy) of.slots strategy))
    refl refl
