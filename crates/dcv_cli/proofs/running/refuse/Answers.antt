use Rattle.dcv_cli.proofs.Common.{message_of}
use Rattle.dcv_cli.proofs.Endings.{tells}
use Rattle.dcv_cli.proofs.running.refuse.Goals as goal

pub returns-clause-message : goal.returns-clause-message
returns-clause-message g c =
    tells (message_of c.args.refused) (g.E.Sink.written c.args.err.now) (g.E.Sink.written c.send.new.sink) (g.E.Sink.faults c.args.err.now) (g.E.Sink.faults c.send.new.sink)
    c.send.result c.send.ensures.ok c.send.ensures.failed c.send.ensures.faults
