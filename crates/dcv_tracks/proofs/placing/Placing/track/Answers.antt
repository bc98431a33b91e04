use Rattle.std.proofs.Common.{◌-◌, length, arith}
use Rattle.dcv_core.specs.TruthViews.{plain_truth}
use Rattle.dcv_tracks.proofs.PlacedSteps.{more_slots}
use Rattle.dcv_tracks.proofs.placing.Placing.track.Goals as goal

pub truth-requires-clause-below : goal.truth-requires-clause-below
truth-requires-clause-below c =
    more_slots (plain_truth c.args.shift.now.operand.now) c.args.self.now.declared (256 - length c.args.self.now.shifts.now) (omega arith) c.requires.operand
