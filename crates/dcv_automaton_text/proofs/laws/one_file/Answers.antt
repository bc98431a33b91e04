use Rattle.dcv_automaton_text.proofs.OneFile.{one_file}
use Rattle.dcv_automaton_text.proofs.laws.one_file.Goals as goal

pub returns : goal.returns
returns c = one_file c.lines_are_read_back.ensures.line
