use Rattle.std.proofs.Common.{◌≡◌, ◌≤◌, take, length}
use Rattle.dcv_automaton_lines.proofs.words.literal.Given as goal

abbrev pub invariant-loop-place : goal.invariant-loop-place
invariant-loop-place l = record { within : l.place ≤ length l.text; same : take l.place l.text ≡ take l.place l.word }
