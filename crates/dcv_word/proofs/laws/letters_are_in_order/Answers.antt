use Rattle.dcv_word.specs.LetterFacts.{letters_total}
use Rattle.dcv_word.proofs.Orders.{letters_Equal, letter_order-numbers}
use Rattle.dcv_word.proofs.laws.letters_are_in_order.Goals as goal

pub returns-clause-total : goal.returns-clause-total
returns-clause-total c = letters_total

pub returns-clause-same : goal.returns-clause-same
returns-clause-same c = letters_Equal

pub returns-clause-numbers : goal.returns-clause-numbers
returns-clause-numbers c = letter_order-numbers
