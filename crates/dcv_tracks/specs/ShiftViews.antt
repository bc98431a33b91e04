-- The shifts of the code as those of `Shifting`.
use Rattle.dcv_core.specs.TruthViews.{plain_truth}
use Rattle.dcv_tracks.specs.declared.gathering.Shift.{Shift as OwnShift}
use Rattle.dcv_tracks.specs.Shifting.{Shift}

abbrev pub plain_shift : OwnShift → Shift
plain_shift shift = record { direction = shift.direction; operand = plain_truth shift.operand.now; span = shift.span }
