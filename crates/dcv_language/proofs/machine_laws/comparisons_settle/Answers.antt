use Rattle.dcv_language.proofs.AtomRuns.{equal_settles, less_settles, at_most_settles, greater_settles, at_least_settles}
use Rattle.dcv_language.proofs.machine_laws.comparisons_settle.Goals as goal

pub returns-clause-equal : goal.returns-clause-equal
returns-clause-equal c = equal_settles

pub returns-clause-less : goal.returns-clause-less
returns-clause-less c = less_settles

pub returns-clause-at_most : goal.returns-clause-at_most
returns-clause-at_most c = at_most_settles

pub returns-clause-greater : goal.returns-clause-greater
returns-clause-greater c = greater_settles

pub returns-clause-at_least : goal.returns-clause-at_least
returns-clause-at_least c = at_least_settles
