use Rattle.std.proofs.Common.{◌-◌, length, drop}
use Rattle.dcv_dfa.specs.Raw.{automaton_of}
use Rattle.dcv_synth.proofs.OneRound.{IsRound}
use Rattle.dcv_synth.proofs.ranks.rank_each.Given as goal

abbrev pub invariant-loop-state : goal.invariant-loop-state
invariant-loop-state l =
    IsRound l.forcing.inputs (l.auto'.arena.slots - l.forcing.inputs) (automaton_of l.auto') (length l.auto'.rows) l.bound l.ranks l.beaten.items (drop l.state-index l.looked)
