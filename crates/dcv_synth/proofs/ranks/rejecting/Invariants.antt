use Rattle.std.proofs.Common.{◌≡◌, ℕ}
use Rattle.dcv_dfa.specs.Raw.{automaton_of}
use Rattle.dcv_synth.specs.Ranked.{lost_within}
use Rattle.dcv_synth.proofs.ranks.rejecting.Given as goal

abbrev pub invariant-loop-state : goal.invariant-loop-state
invariant-loop-state l = (n m : ℕ) → l.lost.items ≡ lost_within n m (automaton_of l.auto') l.state 0
