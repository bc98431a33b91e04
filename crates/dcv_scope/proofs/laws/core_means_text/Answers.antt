use Rattle.dcv_scope.proofs.Means.{goal_means_text, core_means_text, words_are_models}
use Rattle.dcv_scope.proofs.laws.core_means_text.Goals as goal

pub returns-clause-goal : goal.returns-clause-goal
returns-clause-goal c = goal_means_text

pub returns-clause-interval : goal.returns-clause-interval
returns-clause-interval c = core_means_text

pub returns-clause-whole : goal.returns-clause-whole
returns-clause-whole c = words_are_models
