use Rattle.dcv_logic.proofs.InWords.{track-length, track-values}
use Rattle.dcv_logic.proofs.laws.tracks_have_values.Goals as goal

pub returns-clause-length : goal.returns-clause-length
returns-clause-length c = track-length

pub returns-clause-values : goal.returns-clause-values
returns-clause-values c = track-values
