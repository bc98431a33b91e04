use Rattle.dcv_replay.proofs.Steps.{ends_faulty, ends_plain}
use Rattle.dcv_replay.proofs.replay.Replay.take_end.Goals as goal

pub returns-in-Err-clause-ok : goal.returns-in-Err-clause-ok
returns-in-Err-clause-ok g c = ends_faulty _ _ _ _ _ c.in-Err.ensures

pub returns-in-Ok-None-clause-ok : goal.returns-in-Ok-None-clause-ok
returns-in-Ok-None-clause-ok g c = ends_plain _ _ _ _ (rw c.in-Ok-None.field-0-is at c.in-Ok-None.ensures)
