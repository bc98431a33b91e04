use Rattle.std.proofs.Common.{◌-◌, length}
use Rattle.dcv_tables_read.specs.Values.{words_in}
use Rattle.dcv_tables_read.proofs.NameLists.{NamesSoFar}
use Rattle.dcv_tables_read.proofs.functions.names.Given as goal

abbrev pub invariant-loop-names : goal.invariant-loop-names
invariant-loop-names l = NamesSoFar l.count l.text l.rest (words_in l.names.items)

abbrev pub decreases-loop-names : goal.decreases-loop-names
decreases-loop-names l = l.count - length l.names.items
