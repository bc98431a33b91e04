use Rattle.dcv_replay.proofs.Following.{replayed_so}
use Rattle.dcv_replay.proofs.replay.Replay.run.Goals as goal

pub returns-clause-replayed : goal.returns-clause-replayed
returns-clause-replayed g c = λ observer before follows. replayed_so follows c.run_file.ensures.replayed
