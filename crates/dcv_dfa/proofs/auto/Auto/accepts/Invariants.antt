use Rattle.std.proofs.Common.{◌≡◌, ◌<◌, length, drop}
use Rattle.dcv_language.specs.Automaton.{state_from, state_after}
use Rattle.dcv_dfa.specs.Raw.{automaton_of}
use Rattle.dcv_dfa.proofs.auto.Auto.accepts.Given as goal

abbrev pub invariant-loop-letter : goal.invariant-loop-letter
invariant-loop-letter l = record {
  below : l.state < length l.self.rows;
  left : state_from (automaton_of l.self) l.state (drop l.letter-index l.letters) ≡ state_after (automaton_of l.self) l.letters;
}
