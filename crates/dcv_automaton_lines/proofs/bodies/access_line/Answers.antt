use Rattle.std.proofs.Common.{refl}
use Rattle.dcv_automaton_lines.proofs.Pieces.{stuck_behind}
use Rattle.dcv_automaton_lines.proofs.LineSets.{within, some_how_access, number_of}
use Rattle.dcv_automaton_lines.proofs.WordSets.{passes, number_words}
use Rattle.dcv_automaton_lines.proofs.bodies.access_line.Goals as goal

pub returns-in_err-number-clause-fault : goal.returns-in_err-number-clause-fault
returns-in_err-number-clause-fault c =
    passes _ _ _ c.in_err-number.field-0.0 c.from_residual.ensures.1
    (within some_how_access c.in_err-number.ensures.fault)

pub returns-in_err-access-clause-fault : goal.returns-in_err-access-clause-fault
returns-in_err-access-clause-fault c =
    passes _ _ _ c.in_err-access.field-0.0 c.from_residual-in_err-access.ensures.1
    (stuck_behind number_words 32 refl (number_of _ c.in_ok-number.ensures.small) c.in_ok-number.ensures.spelled c.in_err-access.ensures.fault)
