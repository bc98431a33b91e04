use Rattle.dcv_replay.proofs.Steps.{failed_sends}
use Rattle.dcv_replay.proofs.answers.Answers.send.Goals as goal

pub returns-clause-err : goal.returns-clause-err
returns-clause-err g c = failed_sends _ _ _ _ _ c.self.view_is c.write_all.ensures.failed
