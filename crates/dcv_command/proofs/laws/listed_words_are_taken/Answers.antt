-- The walk over each list is computed word by word.
use Rattle.dcv_command.proofs.Listed.{listed_words_are_taken}
use Rattle.dcv_command.proofs.laws.listed_words_are_taken.Goals as goal

pub returns : goal.returns
returns c = listed_words_are_taken
