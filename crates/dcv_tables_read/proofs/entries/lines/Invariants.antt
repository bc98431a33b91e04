use Rattle.std.proofs.Common.{◌-◌, length}
use Rattle.dcv_tables_read.proofs.LineLists.{LinesSoFar}
use Rattle.dcv_tables_read.proofs.entries.lines.Given as goal

abbrev pub invariant-loop-entry : goal.invariant-loop-entry
invariant-loop-entry l = LinesSoFar l.entry l.count l.text l.rest l.numbers.items

abbrev pub decreases-loop-entry : goal.decreases-loop-entry
decreases-loop-entry l = l.count - length l.numbers.items
