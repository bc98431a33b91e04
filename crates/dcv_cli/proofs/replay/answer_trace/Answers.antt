-- What the run over the trace says is what is right for it.
use Rattle.dcv_cli.proofs.Common.{[], err_from_is_err_and}
use Rattle.dcv_cli.specs.Outside.{outside}
use Rattle.dcv_cli.proofs.TraceEnds.{performs_done, performs_stopped}
use Rattle.dcv_cli.proofs.replay.answer_trace.Goals as goal

pub returns-in_err-run : goal.returns-in_err-run
returns-in_err-run g c observer rules follows =
    let p = err_from_is_err_and c.from_residual.result c.from_residual.ensures.1 in
    let given = c.in_err-run.ensures in
    let verdicts = c.traces_have_one_verdict.ensures in
    let texts = c.letters_have_one_text_of_answers.ensures in
    rw (p.1, p.2) (performs_stopped observer c.args.trace.now
    (outside g.F.Files g.O.Sink c.args.files.now c.args.out.now) (outside g.F.Files g.O.Sink c.run.new.files c.run.new.sink)
    verdicts.some verdicts.front texts.front texts.some rules c.in_err-run.field-0.0 (given.replayed observer [] follows)
    (record { asked = given.asked; calls = given.calls; opened = given.open_faults; read = given.read_faults; faults = given.faults; held = given.held }))

pub returns : goal.returns
returns g c observer rules follows =
    let given = c.in_ok-run.ensures in
    performs_done observer c.args.trace.now
    (outside g.F.Files g.O.Sink c.args.files.now c.args.out.now) (outside g.F.Files g.O.Sink c.run.new.files c.run.new.sink) _ (given.replayed observer [] follows)
    (record { asked = given.asked; calls = given.calls; opened = given.open_faults; read = given.read_faults; faults = given.faults; held = given.held })
