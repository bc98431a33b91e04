use Rattle.std.proofs.Common.{arith}
use Rattle.std.proofs.lemmas.Grind.{common_steps}
use Rattle.dcv_io.proofs.Putting.{puts_one_more, puts_same}
use Rattle.dcv_observer.proofs.Listing.{all_seen}
use Rattle.dcv_c.specs.declared.unit.Assignment.{Assignment as CodeAssignment}
use Rattle.dcv_c.specs.Seen.{seen_assignment}
use Rattle.dcv_c.specs.Layout.{text_in, assignment_line}
use Rattle.dcv_c.proofs.layout.put_assignments.Goals as goal

pub loop-assignment-preserved : goal.loop-assignment-preserved
loop-assignment-preserved g c =
    puts_one_more (λ (assignment : CodeAssignment). text_in (assignment_line (seen_assignment c.args.names.now assignment))) c.args.assignments.now c.loop-assignment.assignment-index _ _ _ _
    c.loop-assignment-test.true c.loop-assignment.invariant c.put_assignment.ensures

pub returns : goal.returns
returns g c =
    puts_same _ _ _ _ c.loop-assignment.invariant
    (all_seen (λ assignment. text_in (assignment_line assignment)) (seen_assignment c.args.names.now) c.args.assignments.now c.loop-assignment.assignment-index (grind (arith, common_steps)))
