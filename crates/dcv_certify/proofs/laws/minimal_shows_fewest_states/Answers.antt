use Rattle.dcv_certify.proofs.Certificates.{minimal_shows_fewest_states, minimal_reaches_each_state}
use Rattle.dcv_certify.proofs.laws.minimal_shows_fewest_states.Goals as goal

pub returns-clause-fewest : goal.returns-clause-fewest
returns-clause-fewest c = minimal_shows_fewest_states c.no_table_has_fewer_states.ensures.words

pub returns-clause-reached : goal.returns-clause-reached
returns-clause-reached c = minimal_reaches_each_state
