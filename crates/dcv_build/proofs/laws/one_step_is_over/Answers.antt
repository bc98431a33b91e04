use Rattle.dcv_build.proofs.OverLaws.{one_step_is_over, within_excludes_over}
use Rattle.dcv_build.proofs.laws.one_step_is_over.Goals as goal

pub returns-clause-one : goal.returns-clause-one
returns-clause-one c = one_step_is_over c.one_canonical_table.ensures c.steps_are_operations.ensures.each

pub returns-clause-within : goal.returns-clause-within
returns-clause-within c = within_excludes_over c.one_canonical_table.ensures c.steps_are_operations.ensures.each
