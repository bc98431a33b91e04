use Rattle.std.proofs.Common.{◌≡◌, ◌+◌, drop}
use Rattle.dcv_automaton_read.specs.Starts.{start_of_word}
use Rattle.dcv_automaton_read.proofs.words.start_of_word.Given as goal

-- what is left of the text has the word
abbrev pub invariant-loop-at : goal.invariant-loop-at
invariant-loop-at l = start_of_word l.text l.number ≡ l.at + start_of_word (drop l.at l.text) l.left
