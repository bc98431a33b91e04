use Rattle.dcv_dfa.proofs.States.{table_leads_as_the_states, table_accepts_as_the_states}
use Rattle.dcv_dfa.proofs.laws.tables_accept_the_same.Goals as goal

pub returns : goal.returns
returns c = record { leads = table_leads_as_the_states; accepts = table_accepts_as_the_states }
