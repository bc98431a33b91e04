use Rattle.std.proofs.Common.{◌+◌, ◌∙◌}
use Rattle.dcv_io.proofs.Appending.{Appends-more, rest-drop, within_both}
use Rattle.dcv_io.proofs.writing.write_all.Goals as goal

pub loop-rest-preserved : goal.loop-rest-preserved
loop-rest-preserved g c =
    let before = c.loop-rest.invariant in
    let call = c.in_ok-count.ensures in (
      before.0 + c.in_ok-count.count,
      within_both _ _ before.0 _ before.1 before.2 call.bound,
      rest-drop _ _ before.0 c.in_ok-count.count before.2,
      Appends-more _ _ _ _ _ before.0 c.in_ok-count.count before.2 before.3 call.taken,
      call.faults ∙ before.4,
    )
