-- What the reader says of the text is what is right for it.
use Rattle.dcv_cli.proofs.Common.{err_from_is_err_and}
use Rattle.dcv_tables_read.specs.Seen.{seen_tables}
use Rattle.dcv_command.specs.declared.words.Subset.TheVariants as subset
use Rattle.dcv_cli.proofs.Replays.{explains_observer}
use Rattle.dcv_cli.proofs.replay.tables_of.Goals as goal

pub returns-in_err-unit-clause-refused : goal.returns-in_err-unit-clause-refused
returns-in_err-unit-clause-refused c =
    let p = err_from_is_err_and c.from_residual.result c.from_residual.ensures.1 in
    rw (p.1, p.2) (explains_observer subset.Tables c.args.text.now c.in_err-unit.field-0.0 c.requires c.in_err-unit.ensures.fault)

pub tables-requires : goal.tables-requires
tables-requires c = c.read_units_keep_the_rules.ensures c.args.text.now (seen_tables c.in_ok-unit.unit) c.in_ok-unit.ensures.read
