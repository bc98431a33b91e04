use Rattle.dcv_logic.proofs.InWords.{some_between-found, each_between-every, some_track-found}
use Rattle.dcv_logic.proofs.laws.searches_find.Goals as goal

pub returns-clause-some : goal.returns-clause-some
returns-clause-some c = some_between-found

pub returns-clause-each : goal.returns-clause-each
returns-clause-each c = each_between-every

pub returns-clause-track : goal.returns-clause-track
returns-clause-track c = some_track-found
