use Rattle.std.proofs.Common.{◌≡◌, ◌+◌, length, map, sym, ap, arith}
use Rattle.std.proofs.lemmas.List.{length-map}
use Rattle.dcv_core.specs.StepViews.{plain_op}
use Rattle.dcv_tracks.specs.ShiftViews.{plain_shift}
use Rattle.dcv_tracks.proofs.PlacedSteps.{room_at, below_at, step_placed}
use Rattle.dcv_tracks.proofs.placing.Placing.place_step.Goals as goal

pub operator-requires-clause-below : goal.operator-requires-clause-below
operator-requires-clause-below c =
    below_at c.args.goal.now.steps (length c.args.self.now.shifts.now) c.args.step c.requires.step c.requires.slots c.requires.in_use (plain_op c.op.result) c.op.ensures

pub overflow_add-slots : goal.overflow_add-slots
overflow_add-slots c =
    omega (arith, room_at c.args.goal.now.steps (length c.args.self.now.shifts.now) c.args.step c.requires.step c.requires.slots c.slots.result c.slots.ensures)

pub returns : goal.returns
returns c step is =
    let shifts = c.args.self.now.shifts.now in
    let over : c.slots.result + length shifts ≡ c.slots.result + length (map plain_shift shifts) = ap (λ m. c.slots.result + m) (sym (length-map shifts plain_shift)) in
    step_placed c.args.self.now.declared (map plain_shift shifts) _ _ _ _ _ _ _ _ _ c.op.ensures c.span.ensures c.slots.ensures c.in_ok-operator.ensures over c.in_ok-push.ensures.ok step is
