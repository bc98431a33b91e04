use Rattle.std.proofs.Common.{◌≡◌, map, take}
use Rattle.dcv_dfa.specs.Raw.{is_accepting}
use Rattle.dcv_minimise.proofs.fold.flags.Given as goal

-- the states so far have their flags
abbrev pub invariant-loop-state : goal.invariant-loop-state
invariant-loop-state l = l.accepting.items ≡ map (is_accepting l.raw) (take l.state-index l.kept.states.items)
