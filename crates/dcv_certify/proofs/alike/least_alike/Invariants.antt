use Rattle.dcv_certify.specs.Walk.{work_left, IsWalk}
use Rattle.dcv_automaton_text.specs.Meaning.{table_of}
use Rattle.dcv_certify.specs.Steps.{AreKept}
use Rattle.dcv_certify.proofs.alike.least_alike.Given as goal

-- each suffix is known, or waits
abbrev pub invariant-loop-at : goal.invariant-loop-at
invariant-loop-at l = IsWalk l.file l.links.first.items l.links.next.items l.left.items l.numbers.items × AreKept (table_of l.file) l.steps.kept.items

abbrev pub decreases-loop-at : goal.decreases-loop-at
decreases-loop-at l = work_left l.file l.links.next.items l.left.items
