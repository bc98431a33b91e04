use Rattle.std.proofs.Common.{refl}
use Rattle.dcv_automaton_lines.proofs.Pieces.{stuck_behind}
use Rattle.dcv_automaton_lines.proofs.LineSets.{within, some_answer, some_row, number_of, answer_of}
use Rattle.dcv_automaton_lines.proofs.WordSets.{passes, number_words, answer_words}
use Rattle.dcv_automaton_lines.proofs.bodies.state_line.Goals as goal

pub returns-in_err-number-clause-fault : goal.returns-in_err-number-clause-fault
returns-in_err-number-clause-fault c =
    passes _ _ _ c.in_err-number.field-0.0 c.from_residual.ensures.1
    (within some_answer c.in_err-number.ensures.fault)

pub returns-in_err-accepting-clause-fault : goal.returns-in_err-accepting-clause-fault
returns-in_err-accepting-clause-fault c =
    passes _ _ _ c.in_err-accepting.field-0.0 c.from_residual-in_err-accepting.ensures.1
    (stuck_behind number_words 32 refl (number_of _ c.in_ok-number.ensures.small) c.in_ok-number.ensures.spelled (within some_row c.in_err-accepting.ensures.fault))

pub returns-in_err-row-clause-fault : goal.returns-in_err-row-clause-fault
returns-in_err-row-clause-fault c =
    passes _ _ _ c.in_err-row.field-0.0 c.from_residual-in_err-row.ensures.1
    (stuck_behind number_words 32 refl (number_of _ c.in_ok-number.ensures.small) c.in_ok-number.ensures.spelled (stuck_behind answer_words 32 refl (answer_of _) c.in_ok-accepting.ensures.spelled c.in_err-row.ensures.fault))
