use Rattle.std.proofs.Common.{take}
use Rattle.dcv_automaton_lines.proofs.WordSets.{IsBeginning}
use Rattle.dcv_automaton_lines.proofs.words.number.Given as goal

abbrev pub invariant-loop-place : goal.invariant-loop-place
invariant-loop-place l = IsBeginning (take l.place l.text) l.number
