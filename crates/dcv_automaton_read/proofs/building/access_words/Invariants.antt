use Rattle.std.proofs.Common.{◌≡◌, map, take}
use Rattle.dcv_automaton_lines.specs.declared.lines.AccessLine.{AccessLine}
use Rattle.dcv_automaton_lines.specs.Seen.{access_of}
use Rattle.dcv_automaton_read.specs.File.{access_from}
use Rattle.dcv_automaton_read.proofs.building.access_words.Given as goal

abbrev pub invariant-loop-line : goal.invariant-loop-line
invariant-loop-line l = map access_from l.words.items ≡ map (λ (line : AccessLine). access_of line.access) (take l.line-index l.lines)
