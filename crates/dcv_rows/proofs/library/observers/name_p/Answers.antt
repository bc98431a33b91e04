use Rattle.dcv_rows.proofs.NameP.{only_p}
use Rattle.dcv_rows.proofs.library.observers.name_p.Goals as goal

pub returns-clause-names : goal.returns-clause-names
returns-clause-names c = only_p _ _ _ c.in_ok-push.ensures.items c.new-names.ensures.items c.in_ok-text.ensures
