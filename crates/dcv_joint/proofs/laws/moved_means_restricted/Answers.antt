use Rattle.dcv_joint.proofs.FileWords.{steps_are_in_use, file_means_over}
use Rattle.dcv_joint.proofs.Places.{moved_means}
use Rattle.dcv_joint.proofs.laws.moved_means_restricted.Goals as goal

pub returns-clause-tree : goal.returns-clause-tree
returns-clause-tree c = moved_means

pub returns-clause-file : goal.returns-clause-file
returns-clause-file c = file_means_over c.measures_bound_core.ensures.in_use c.core_means_text.ensures.whole

pub returns-clause-in_use : goal.returns-clause-in_use
returns-clause-in_use c = steps_are_in_use c.measures_bound_core.ensures.in_use
