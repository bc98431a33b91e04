-- The order of words is total and tells any two apart, so there is one least behaviour at most.
use Rattle.dcv_language.proofs.Least.{one_verdict}
use Rattle.dcv_language.proofs.laws.one_verdict.Goals as goal

pub returns : goal.returns
returns c = one_verdict c.words_are_in_order.ensures.total c.words_are_in_order.ensures.same
