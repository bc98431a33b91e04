use Rattle.std.proofs.Common.{◌≡◌}
use Rattle.dcv_shelf.specs.Stored.{copied_states}
use Rattle.dcv_shelf.proofs.stored.states_of.Given as goal

abbrev pub invariant-loop-state : goal.invariant-loop-state
invariant-loop-state l = l.states.items ≡ copied_states l.auto' l.copies l.state
