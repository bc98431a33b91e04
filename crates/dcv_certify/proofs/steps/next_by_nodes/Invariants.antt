use Rattle.std.proofs.Common.{◌≡◌, map, take, length}
use Rattle.dcv_automaton_text.specs.Meaning.{state_at}
use Rattle.dcv_automaton_read.specs.declared.file.Row.{Row}
use Rattle.dcv_certify.proofs.steps.next_by_nodes.Given as goal

abbrev pub invariant-loop-state : goal.invariant-loop-state
invariant-loop-state l = (length l.next.items ≡ length l.rows) × (take l.state l.next.items ≡ map (λ (row : Row). state_at l.leaves.items row.next) (take l.state l.rows))
