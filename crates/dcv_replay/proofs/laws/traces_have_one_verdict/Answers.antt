use Rattle.dcv_replay.proofs.SomeVerdict.{some_verdict}
use Rattle.dcv_replay.proofs.TraceLaws.{one_verdict, no_bad, no_long, lines_are_front}
use Rattle.dcv_replay.proofs.laws.traces_have_one_verdict.Goals as goal

pub returns-clause-one : goal.returns-clause-one
returns-clause-one c = one_verdict c.lines_are_read_back.ensures.line

pub returns-clause-some : goal.returns-clause-some
returns-clause-some c = some_verdict

pub returns-clause-bad : goal.returns-clause-bad
returns-clause-bad c = no_bad c.lines_are_read_back.ensures.line

pub returns-clause-long : goal.returns-clause-long
returns-clause-long c = no_long c.lines_are_read_back.ensures.line

pub returns-clause-front : goal.returns-clause-front
returns-clause-front c = lines_are_front c.lines_are_read_back.ensures.line
