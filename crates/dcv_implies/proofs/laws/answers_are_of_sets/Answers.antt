use Rattle.dcv_implies.proofs.Answers.{answer_of_same_behaviours, answer_of_automata}
use Rattle.dcv_implies.proofs.laws.answers_are_of_sets.Goals as goal

pub returns-clause-same : goal.returns-clause-same
returns-clause-same c = answer_of_same_behaviours

pub returns-clause-automata : goal.returns-clause-automata
returns-clause-automata c = answer_of_automata
