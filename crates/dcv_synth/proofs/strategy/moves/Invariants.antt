use Rattle.std.proofs.Common.{ℕ, length}
use Rattle.dcv_dfa.specs.Raw.{automaton_of}
use Rattle.dcv_synth.specs.Ranked.{AreRanked}
use Rattle.dcv_synth.specs.Listing.{AreMovesBelow}
use Rattle.dcv_synth.proofs.strategy.moves.Given as goal

abbrev pub invariant-loop-state : goal.invariant-loop-state
invariant-loop-state l = (n m : ℕ) → AreRanked n m (automaton_of l.auto') (length l.auto'.rows) l.ranks → AreMovesBelow n m (automaton_of l.auto') l.state l.moves.items
