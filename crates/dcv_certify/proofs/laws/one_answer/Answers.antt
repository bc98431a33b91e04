use Rattle.dcv_certify.proofs.Certificates.{one_answer}
use Rattle.dcv_certify.proofs.laws.one_answer.Goals as goal

pub returns : goal.returns
returns c = one_answer
