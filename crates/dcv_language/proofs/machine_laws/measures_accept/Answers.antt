use Rattle.dcv_language.proofs.AtomRuns.{slen_accepts, scount_accepts, sdur_accepts}
use Rattle.dcv_language.proofs.machine_laws.measures_accept.Goals as goal

pub returns-clause-slen : goal.returns-clause-slen
returns-clause-slen c = slen_accepts

pub returns-clause-scount : goal.returns-clause-scount
returns-clause-scount c = scount_accepts

pub returns-clause-sdur : goal.returns-clause-sdur
returns-clause-sdur c = sdur_accepts
