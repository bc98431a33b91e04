use Rattle.dcv_cli.proofs.Common.{rules}
use Rattle.dcv_io.proofs.Putting.{all_sent, front_sent, faults_counted}
use Rattle.dcv_cli.proofs.reply.send.Goals as goal

pub returns-clause-ok : goal.returns-clause-ok
returns-clause-ok g c =
    all_sent g.S.Sink.written g.S.Sink.faults g.S.Sink.last_failed _ c.new-block.result.sink c.put.new.target.sink c.finish.new.self.sink
    _ _ _ _ _ _ _ _ _ c.new-block.ensures.sink c.new-block.ensures.held c.new-block.ensures.failed c.put.ensures c.finish.ensures.puts
    c.finish.ensures.empty c.finish.ensures.failed (search rules)

pub returns-clause-failed : goal.returns-clause-failed
returns-clause-failed g c =
    front_sent g.S.Sink.written g.S.Sink.faults g.S.Sink.last_failed _ c.new-block.result.sink c.put.new.target.sink c.finish.new.self.sink
    _ _ _ _ _ _ _ _ _ c.new-block.ensures.sink c.new-block.ensures.held c.new-block.ensures.failed c.put.ensures c.finish.ensures.puts
    c.finish.ensures.empty c.finish.ensures.failed (search rules)

pub returns-clause-faults : goal.returns-clause-faults
returns-clause-faults g c =
    faults_counted g.S.Sink.written g.S.Sink.faults g.S.Sink.last_failed _ c.new-block.result.sink c.put.new.target.sink c.finish.new.self.sink
    _ _ _ _ _ _ _ _ _ c.new-block.ensures.sink c.new-block.ensures.held c.new-block.ensures.failed c.put.ensures c.finish.ensures.puts
    c.finish.ensures.empty c.finish.ensures.failed (search rules)
