use Rattle.std.proofs.Common.{◌≡◌, true, take}
use Rattle.std.specs.List.{list_all}
use Rattle.dcv_automaton_lines.specs.Stops.{is_binary}
use Rattle.dcv_automaton_lines.proofs.words.binary_length.Given as goal

abbrev pub invariant-loop-place : goal.invariant-loop-place
invariant-loop-place l = list_all is_binary (take l.place l.text) ≡ true
