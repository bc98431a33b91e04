use Rattle.dcv_tables.proofs.PlainNames.{one_name}
use Rattle.dcv_tables.proofs.names.one_name.Goals as goal

pub returns-clause-names : goal.returns-clause-names
returns-clause-names c = one_name c.args.letter _ _ _ c.requires c.in_ok-push.ensures.items c.new-names.ensures.items c.in_ok-text.ensures
