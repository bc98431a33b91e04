use Rattle.dcv_lustre.proofs.TraceLaws.{some_trace, only_trace, trace_of_beginning}
use Rattle.dcv_lustre.proofs.laws.one_trace.Goals as goal

pub returns-clause-some : goal.returns-clause-some
returns-clause-some c = some_trace

pub returns-clause-only : goal.returns-clause-only
returns-clause-only c = only_trace

pub returns-clause-beginning : goal.returns-clause-beginning
returns-clause-beginning c = trace_of_beginning
