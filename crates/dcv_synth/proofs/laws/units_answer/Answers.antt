use Rattle.dcv_synth.proofs.UnitOf.{units_keep_the_rules, units_answer, units_win}
use Rattle.dcv_synth.proofs.laws.units_answer.Goals as goal

pub returns-clause-rules : goal.returns-clause-rules
returns-clause-rules c = units_keep_the_rules

pub returns-clause-answers : goal.returns-clause-answers
returns-clause-answers c = units_answer c.lines_are_of_rows.ensures.numbers

pub returns-clause-wins : goal.returns-clause-wins
returns-clause-wins c = units_win c.lines_are_of_rows.ensures.numbers
