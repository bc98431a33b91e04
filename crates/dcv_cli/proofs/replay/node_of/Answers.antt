-- What the reader says of the text is what is right for it.
use Rattle.dcv_cli.proofs.Common.{err_from_is_err_and}
use Rattle.dcv_command.specs.declared.words.Subset.TheVariants as subset
use Rattle.dcv_cli.proofs.Replays.{explains_observer}
use Rattle.dcv_cli.proofs.replay.node_of.Goals as goal

pub returns-in_err-node-clause-refused : goal.returns-in_err-node-clause-refused
returns-in_err-node-clause-refused c =
    let p = err_from_is_err_and c.from_residual.result c.from_residual.ensures.1 in
    rw (p.1, p.2) (explains_observer subset.Lustre c.args.text.now c.in_err-node.field-0.0 c.requires c.in_err-node.ensures.fault)
