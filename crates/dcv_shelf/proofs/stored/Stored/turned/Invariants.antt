use Rattle.std.proofs.Common.{◌≡◌, take}
use Rattle.dcv_shelf.specs.Stored.{turned_states}
use Rattle.dcv_shelf.proofs.stored.Stored.turned.Given as goal

abbrev pub invariant-loop-state : goal.invariant-loop-state
invariant-loop-state l = l.states.items ≡ turned_states l.self.alone (take l.state-index l.self.states.items)
