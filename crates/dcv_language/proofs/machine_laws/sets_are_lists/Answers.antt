use Rattle.dcv_language.proofs.Sets.{set_ascends, set_has_the_listed, set_is_one}
use Rattle.dcv_language.proofs.machine_laws.sets_are_lists.Goals as goal

pub returns-clause-ascends : goal.returns-clause-ascends
returns-clause-ascends c = set_ascends

pub returns-clause-some : goal.returns-clause-some
returns-clause-some c = set_has_the_listed

pub returns-clause-one : goal.returns-clause-one
returns-clause-one c = set_is_one
