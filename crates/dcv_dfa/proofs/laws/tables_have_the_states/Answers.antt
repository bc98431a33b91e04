use Rattle.dcv_dfa.proofs.States.{table_has_the_states, table_has_the_flags, table_has_the_steps, states_make_a_table}
use Rattle.dcv_dfa.proofs.laws.tables_have_the_states.Goals as goal

pub returns : goal.returns
returns c = record { states = table_has_the_states; flags = table_has_the_flags; steps = table_has_the_steps; table = states_make_a_table }
