use Rattle.dcv_automaton_text.proofs.InWords.{good_files_in_words}
use Rattle.dcv_automaton_text.proofs.laws.good_files_in_words.Goals as goal

pub returns : goal.returns
returns c = good_files_in_words
