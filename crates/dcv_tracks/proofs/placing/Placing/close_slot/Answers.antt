use Rattle.std.proofs.Common.{◌≡◌, ◌+◌, ◌-◌, length, map, refl, ap}
use Rattle.dcv_core.specs.TruthViews.{plain_basic}
use Rattle.dcv_tracks.specs.ShiftViews.{plain_shift}
use Rattle.dcv_tracks.proofs.ClosingSteps.{slot_closed}
use Rattle.dcv_tracks.proofs.placing.Placing.close_slot.Goals as goal

pub returns : goal.returns
returns c =
    let old = c.args.core.now in
    let goal_is : c.steps-goal.result - 1 ≡ length old.steps - 1 = ap (λ n. n - 1) c.steps-goal.ensures in
    slot_closed c.args.self.now.declared (map plain_shift c.args.self.now.shifts.now) c.args.slot (c.args.slot + 1) (plain_shift c.args.shift.now)
    (plain_basic c.in_ok-track.field-0) (c.steps-goal.result - 1) c.in_ok-track-2.track c.in_ok-both.both c.in_ok-push.field-0 old c.push.new.self c.push-2.new.self c.push-3.new.self
    c.in_ok-track.ensures goal_is refl c.in_ok-track-2.ensures.ok c.in_ok-both.ensures.ok c.in_ok-push.ensures.ok
