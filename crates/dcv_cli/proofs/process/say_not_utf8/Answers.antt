use Rattle.dcv_cli.specs.Promise.{not_utf8}
use Rattle.dcv_cli.proofs.Endings.{tells}
use Rattle.dcv_cli.proofs.process.say_not_utf8.Goals as goal

pub returns : goal.returns
returns g c =
    tells not_utf8 (g.E.Sink.written c.args.err.now) (g.E.Sink.written c.write_all.new.sink) (g.E.Sink.faults c.args.err.now) (g.E.Sink.faults c.write_all.new.sink)
    c.write_all.result c.write_all.ensures.ok c.write_all.ensures.failed c.write_all.ensures.faults
