use Rattle.std.proofs.Common.{◌≡◌, map}
use Rattle.std.specs.List.{range_with_len}
use Rattle.dcv_dfa.specs.Raw.{automaton_of}
use Rattle.dcv_synth.specs.Ranked.{win_by}
use Rattle.dcv_synth.proofs.controlling.win_of.Given as goal

abbrev pub invariant-loop-state : goal.invariant-loop-state
invariant-loop-state l = l.win.items ≡ map (win_by (automaton_of l.auto') l.ranks) (range_with_len 0 l.state)
