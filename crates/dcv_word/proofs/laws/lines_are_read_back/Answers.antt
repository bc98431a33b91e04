use Rattle.dcv_word.proofs.Readings.{read_back, one_reading, trace_line-injective, trace_text-injective}
use Rattle.dcv_word.proofs.laws.lines_are_read_back.Goals as goal

pub returns-clause-back : goal.returns-clause-back
returns-clause-back c = read_back

pub returns-clause-one : goal.returns-clause-one
returns-clause-one c = one_reading

pub returns-clause-line : goal.returns-clause-line
returns-clause-line c = trace_line-injective

pub returns-clause-text : goal.returns-clause-text
returns-clause-text c = trace_text-injective
