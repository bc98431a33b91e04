use Rattle.dcv_dfa.proofs.SameLines.{same_rows_have_one_list_of_lines}
use Rattle.dcv_dfa.proofs.LineStates.{lines_have_the_numbers_of_the_rows}
use Rattle.dcv_dfa.proofs.laws.lines_are_of_rows.Goals as goal

pub returns : goal.returns
returns c = record { one = same_rows_have_one_list_of_lines; numbers = lines_have_the_numbers_of_the_rows }
