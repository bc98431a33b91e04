use Rattle.std.proofs.Common.{◌≡◌, ◌++◌, take}
use Rattle.dcv_language.specs.StateSet.{set_of}
use Rattle.dcv_sets.proofs.state_set.StateSet.with.Given as goal

-- the list has the set of the states and of the numbers that were gone through
abbrev pub invariant-loop-state : goal.invariant-loop-state
invariant-loop-state l = set_of l.states.items ≡ set_of (l.self ++ take l.state-index l.more)
