-- What the reader of automaton texts says is what is right for the text.
use Rattle.dcv_cli.proofs.Common.{err_from_is_err_and}
use Rattle.dcv_cli.proofs.Certificates.{explains_automaton}
use Rattle.dcv_cli.proofs.command.automaton_in.Goals as goal

pub returns-in_err-automaton_read-clause-refused : goal.returns-in_err-automaton_read-clause-refused
returns-in_err-automaton_read-clause-refused c =
    let p = err_from_is_err_and c.from_residual.result c.from_residual.ensures.1 in
    rw (p.1, p.2) (explains_automaton c.args.text.now c.in_err-automaton_read.field-0.0 c.requires c.in_err-automaton_read.ensures.fault)
