use Rattle.dcv_core.proofs.Words.{words_of_atom, words_of_not, words_of_joined, words_of_chop, words_of_star, words_of_exists}
use Rattle.dcv_core.proofs.laws.words_are_operations.Goals as goal

pub returns-clause-atom : goal.returns-clause-atom
returns-clause-atom c = words_of_atom

pub returns-clause-not : goal.returns-clause-not
returns-clause-not c = words_of_not

pub returns-clause-joined : goal.returns-clause-joined
returns-clause-joined c = words_of_joined

pub returns-clause-chop : goal.returns-clause-chop
returns-clause-chop c = words_of_chop

pub returns-clause-star : goal.returns-clause-star
returns-clause-star c = words_of_star

pub returns-clause-exists : goal.returns-clause-exists
returns-clause-exists c = words_of_exists
