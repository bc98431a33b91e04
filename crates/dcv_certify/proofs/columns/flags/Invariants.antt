use Rattle.std.proofs.Common.{[]}
use Rattle.dcv_automaton_text.specs.Meaning.{table_of}
use Rattle.dcv_certify.proofs.Bits.{IsColumnSoFar}
use Rattle.dcv_certify.proofs.columns.flags.Given as goal

abbrev pub invariant-loop-state : goal.invariant-loop-state
invariant-loop-state l = IsColumnSoFar (table_of l.file) [] l.column.items l.state
