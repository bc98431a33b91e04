use Rattle.dcv_quotient.proofs.SomeCertificates.{some_certificate_of}
use Rattle.dcv_quotient.proofs.laws.some_certificate.Goals as goal

pub returns : goal.returns
returns c = some_certificate_of
