use Rattle.dcv_language.proofs.Canonicals.{access_words_are_least, access_leads}
use Rattle.dcv_language.proofs.laws.access_words_are_least.Goals as goal

pub returns-clause-least : goal.returns-clause-least
returns-clause-least c = access_words_are_least

pub returns-clause-lead : goal.returns-clause-lead
returns-clause-lead c k L table access state canonical below = access_leads k L table access canonical state below
