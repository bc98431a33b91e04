use Rattle.dcv_word.proofs.Orders.{shortlex_total, words_Equal, shortlex-shorter, shortlex-first}
use Rattle.dcv_word.proofs.laws.words_are_in_order.Goals as goal

pub returns-clause-total : goal.returns-clause-total
returns-clause-total c = shortlex_total

pub returns-clause-same : goal.returns-clause-same
returns-clause-same c = words_Equal

pub returns-clause-shorter : goal.returns-clause-shorter
returns-clause-shorter c = shortlex-shorter

pub returns-clause-first : goal.returns-clause-first
returns-clause-first c = shortlex-first
