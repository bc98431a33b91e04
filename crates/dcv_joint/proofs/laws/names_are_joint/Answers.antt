use Rattle.dcv_joint.proofs.JointLists.{names_fit, joint_names_differ, joint_has_each, joint_of_one}
use Rattle.dcv_joint.proofs.laws.names_are_joint.Goals as goal

pub returns-clause-fit : goal.returns-clause-fit
returns-clause-fit c = names_fit

pub returns-clause-differ : goal.returns-clause-differ
returns-clause-differ c = joint_names_differ

pub returns-clause-each : goal.returns-clause-each
returns-clause-each c = joint_has_each

pub returns-clause-one : goal.returns-clause-one
returns-clause-one c = joint_of_one
