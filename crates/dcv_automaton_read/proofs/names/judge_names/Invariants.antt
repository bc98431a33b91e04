use Rattle.std.proofs.Common.{◌≡◌, ◌+◌, ◌≤◌}
use Rattle.dcv_automaton_read.specs.Seen.{texts_of}
use Rattle.dcv_automaton_read.proofs.Judging.{IsLeft}
use Rattle.dcv_automaton_read.proofs.NameWords.{one_word, keeps_word}
use Rattle.dcv_automaton_read.proofs.names.judge_names.Given as goal

abbrev pub invariant-loop-place : goal.invariant-loop-place
invariant-loop-place l =
    IsLeft one_word (keeps_word (texts_of l.names)) (texts_of l.names) l.first l.place l.number × (l.number ≡ l.first + l.place) × (l.place ≤ 16)
