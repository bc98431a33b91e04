use Rattle.std.proofs.Common.{◌≡◌}
use Rattle.std.specs.List.{filter, range_with_len}
use Rattle.dcv_synth.specs.Listing.{starts_or_wins}
use Rattle.dcv_synth.proofs.controlling.states_of.Given as goal

abbrev pub invariant-loop-state : goal.invariant-loop-state
invariant-loop-state l = l.states.items ≡ filter (starts_or_wins l.start l.win) (range_with_len 0 l.state)
