use Rattle.std.proofs.Common.{length}
use Rattle.dcv_scope.specs.CoreOf.{expanded_file}
use Rattle.dcv_tracks.proofs.NoShifts.{no_shift_is_left}
use Rattle.dcv_scope.proofs.laws.no_shift_is_left.Goals as goal

pub returns : goal.returns
returns c = λ file n step is. no_shift_is_left (length file.variables) (expanded_file file) n step is
