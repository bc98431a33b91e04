use Rattle.std.proofs.Common.{drop, ◌∷◌}
use Rattle.std.specs.List.Sorted.{IsStrictlyIncreasing}
use Rattle.dcv_sets.proofs.state_set.is_ascending.Given as goal

-- what is left decides
abbrev pub invariant-loop-state : goal.invariant-loop-state
invariant-loop-state l = IsStrictlyIncreasing (l.last ∷ drop l.state-index l.others) → IsStrictlyIncreasing l.states
