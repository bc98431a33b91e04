use Rattle.dcv_automaton_read.proofs.GoodTexts.{good_texts_are_read}
use Rattle.dcv_automaton_read.proofs.laws.good_texts_are_read.Goals as goal

pub returns : goal.returns
returns c = good_texts_are_read c.one_file.ensures
