use Rattle.dcv_language.proofs.OperationRuns.{not_accepts, and_accepts, or_accepts, iff_accepts, chop_accepts, star_accepts, exists_accepts}
use Rattle.dcv_language.proofs.machine_laws.operations_accept.Goals as goal

pub returns-clause-not : goal.returns-clause-not
returns-clause-not c = not_accepts

pub returns-clause-and : goal.returns-clause-and
returns-clause-and c = and_accepts

pub returns-clause-or : goal.returns-clause-or
returns-clause-or c = or_accepts

pub returns-clause-iff : goal.returns-clause-iff
returns-clause-iff c = iff_accepts

pub returns-clause-chop : goal.returns-clause-chop
returns-clause-chop c = chop_accepts

pub returns-clause-star : goal.returns-clause-star
returns-clause-star c = star_accepts

pub returns-clause-exists : goal.returns-clause-exists
returns-clause-exists c = exists_accepts
