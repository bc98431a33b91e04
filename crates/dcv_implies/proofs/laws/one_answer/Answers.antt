use Rattle.dcv_implies.proofs.Answers.{one_answer}
use Rattle.dcv_implies.proofs.laws.one_answer.Goals as goal

pub returns : goal.returns
returns c = one_answer c.one_canonical_table.ensures c.words_are_in_order.ensures.total c.words_are_in_order.ensures.same
