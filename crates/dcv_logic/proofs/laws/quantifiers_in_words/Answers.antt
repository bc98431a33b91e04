use Rattle.dcv_logic.proofs.InWords.{exists-in_words, for_all-in_words}
use Rattle.dcv_logic.proofs.laws.quantifiers_in_words.Goals as goal

pub returns-clause-exists : goal.returns-clause-exists
returns-clause-exists c = exists-in_words

pub returns-clause-for_all : goal.returns-clause-for_all
returns-clause-for_all c = for_all-in_words
