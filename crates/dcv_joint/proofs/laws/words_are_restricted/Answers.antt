use Rattle.dcv_joint.proofs.Places.{restricted_is_behaviour, restricted_to_all, restricted_in_turn, each_is_restricted}
use Rattle.dcv_joint.proofs.laws.words_are_restricted.Goals as goal

pub returns-clause-behaviour : goal.returns-clause-behaviour
returns-clause-behaviour c = restricted_is_behaviour

pub returns-clause-all : goal.returns-clause-all
returns-clause-all c = restricted_to_all

pub returns-clause-in_turn : goal.returns-clause-in_turn
returns-clause-in_turn c = restricted_in_turn

pub returns-clause-each : goal.returns-clause-each
returns-clause-each c = each_is_restricted
