use Rattle.std.proofs.Common.{◌≡◌, map, take}
use Rattle.dcv_automaton_read.specs.declared.file.Row.{Row}
use Rattle.dcv_certify.proofs.built.flags_of.Given as goal

abbrev pub invariant-loop-row : goal.invariant-loop-row
invariant-loop-row l = l.flags.items ≡ map (λ (row : Row). row.accepting) (take l.row-index l.rows)
