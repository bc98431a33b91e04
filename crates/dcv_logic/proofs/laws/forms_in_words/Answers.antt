use Rattle.dcv_logic.proofs.InWords.{run-in_words, every-in_words, chop-of_one, chop-in_words, star-in_words, star-bound, somewhere-in_words, everywhere-in_words}
use Rattle.dcv_logic.proofs.laws.forms_in_words.Goals as goal

pub returns-clause-run : goal.returns-clause-run
returns-clause-run c = run-in_words

pub returns-clause-every : goal.returns-clause-every
returns-clause-every c = every-in_words

pub returns-clause-one : goal.returns-clause-one
returns-clause-one c = chop-of_one

pub returns-clause-chop : goal.returns-clause-chop
returns-clause-chop c = chop-in_words

pub returns-clause-star : goal.returns-clause-star
returns-clause-star c = star-in_words

pub returns-clause-bound : goal.returns-clause-bound
returns-clause-bound c = star-bound

pub returns-clause-somewhere : goal.returns-clause-somewhere
returns-clause-somewhere c = somewhere-in_words

pub returns-clause-everywhere : goal.returns-clause-everywhere
returns-clause-everywhere c = everywhere-in_words
