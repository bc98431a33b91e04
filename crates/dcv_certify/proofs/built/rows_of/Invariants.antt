use Rattle.std.proofs.Common.{◌≡◌, map, take}
use Rattle.dcv_automaton_read.specs.declared.file.Row.{Row}
use Rattle.dcv_certify.specs.Built.{ref_at}
use Rattle.dcv_certify.proofs.built.rows_of.Given as goal

abbrev pub invariant-loop-row : goal.invariant-loop-row
invariant-loop-row l = l.made.items ≡ map (λ (row : Row). ref_at l.refs row.next) (take l.row-index l.rows)
