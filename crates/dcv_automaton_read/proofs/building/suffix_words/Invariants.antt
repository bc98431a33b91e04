use Rattle.std.proofs.Common.{◌≡◌, map, take}
use Rattle.dcv_automaton_lines.specs.declared.lines.SuffixLine.{SuffixLine}
use Rattle.dcv_automaton_lines.specs.Seen.{suffix_of}
use Rattle.dcv_automaton_read.specs.File.{suffix_from}
use Rattle.dcv_automaton_read.proofs.building.suffix_words.Given as goal

abbrev pub invariant-loop-line : goal.invariant-loop-line
invariant-loop-line l = map suffix_from l.words.items ≡ map (λ (line : SuffixLine). suffix_of line.suffix) (take l.line-index l.lines)
