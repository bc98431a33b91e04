use Rattle.dcv_automaton_text.specs.Meaning.{table_of}
use Rattle.dcv_certify.proofs.Stepping.{LeadSoFar}
use Rattle.dcv_certify.proofs.steps.next_by_rows.Given as goal

abbrev pub invariant-loop-state : goal.invariant-loop-state
invariant-loop-state l = LeadSoFar (table_of l.file) l.letter l.next.items l.state
