use Rattle.dcv_replay.proofs.Steps.{stops_here}
use Rattle.dcv_replay.proofs.replay.Replay.take_byte.Goals as goal

pub returns-in-Err-clause-ok : goal.returns-in-Err-clause-ok
returns-in-Err-clause-ok g c = stops_here _ _ _ _ _ _ _ c.in-Err.ensures.ok
