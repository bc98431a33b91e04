use Rattle.std.proofs.Common.{◌-◌}
use Rattle.dcv_automaton_lines.specs.Parts.{rank}
use Rattle.dcv_automaton_lines.proofs.sections.+keyword.Given as goal

abbrev pub decreases-keyword : goal.decreases-keyword
decreases-keyword l = 5 - rank l.first
