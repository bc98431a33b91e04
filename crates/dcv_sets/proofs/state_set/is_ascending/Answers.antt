use Rattle.std.proofs.Common.{sym, subst, ◌∷◌}
use Rattle.std.specs.List.Sorted.{IsStrictlyIncreasing}
use Rattle.dcv_sets.proofs.SameSets.{one_more_ascends, none_left_ascends}
use Rattle.dcv_sets.proofs.state_set.is_ascending.Goals as goal

pub loop-state-init : goal.loop-state-init
loop-state-init c = subst (λ states. IsStrictlyIncreasing (c.in-Some.first.now ∷ c.in-Some.others.now) → IsStrictlyIncreasing states) (sym c.in-Some.ensures.cases.0) (λ all. all)

pub loop-state-preserved : goal.loop-state-preserved
loop-state-preserved c left = c.loop-state.invariant (one_more_ascends c.loop-state.last c.loop-state.state-index c.in-Some.others.now c.loop-state-test.true c.if-state-last.false left)

pub returns : goal.returns
returns c e = c.loop-state.invariant (none_left_ascends c.loop-state.last c.loop-state.state-index c.in-Some.others.now c.loop-state-test.false)
