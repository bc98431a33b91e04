use Rattle.dcv_stuck.proofs.Answers.{one_least_stuck, least_stuck_of_same_behaviours}
use Rattle.dcv_stuck.proofs.SomeStuck.{some_least_stuck}
use Rattle.dcv_stuck.proofs.laws.least_stuck_is_of_sets.Goals as goal

pub returns-clause-some : goal.returns-clause-some
returns-clause-some c = some_least_stuck

pub returns-clause-one : goal.returns-clause-one
returns-clause-one c = one_least_stuck

pub returns-clause-same : goal.returns-clause-same
returns-clause-same c = least_stuck_of_same_behaviours
