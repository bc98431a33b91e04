use Rattle.dcv_word.proofs.Orders.{shortlex-front, shortlex-end, shortlex-ends}
use Rattle.dcv_word.proofs.laws.word_order_is_kept.Goals as goal

pub returns-clause-front : goal.returns-clause-front
returns-clause-front c = shortlex-front

pub returns-clause-end : goal.returns-clause-end
returns-clause-end c = shortlex-end

pub returns-clause-ends : goal.returns-clause-ends
returns-clause-ends c = shortlex-ends
