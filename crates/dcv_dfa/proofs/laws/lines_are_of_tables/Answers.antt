use Rattle.dcv_dfa.proofs.SameLines.{one_table_has_one_list_of_lines}
use Rattle.dcv_dfa.proofs.LineStates.{lines_lead_as_the_rows}
use Rattle.dcv_dfa.proofs.laws.lines_are_of_tables.Goals as goal

pub returns : goal.returns
returns c = record { one = one_table_has_one_list_of_lines; lead = lines_lead_as_the_rows }
