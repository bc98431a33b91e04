use Rattle.dcv_quotient.proofs.TableQuotients.{some_verdict_of}
use Rattle.dcv_quotient.proofs.laws.some_verdict.Goals as goal

pub returns : goal.returns
returns c = some_verdict_of
