use Rattle.dcv_certify.proofs.Certificates.{printed_is_certified}
use Rattle.dcv_certify.proofs.laws.printed_is_certified.Goals as goal

pub returns : goal.returns
returns c = printed_is_certified c.access_words_are_least.ensures.lead
