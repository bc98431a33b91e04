-- State by state.
use Rattle.dcv_atoms.proofs.FoundAgain.{constant_again, point_again, run_again, every_again, unit_again, count_again, duration_again, back_again, fore_again}
use Rattle.dcv_atoms.proofs.laws.states_are_found_again.Goals as goal

pub returns-clause-constant : goal.returns-clause-constant
returns-clause-constant c = constant_again

pub returns-clause-point : goal.returns-clause-point
returns-clause-point c = point_again

pub returns-clause-run : goal.returns-clause-run
returns-clause-run c = run_again

pub returns-clause-every : goal.returns-clause-every
returns-clause-every c = every_again

pub returns-clause-unit : goal.returns-clause-unit
returns-clause-unit c = unit_again

pub returns-clause-count : goal.returns-clause-count
returns-clause-count c = count_again

pub returns-clause-duration : goal.returns-clause-duration
returns-clause-duration c = duration_again

pub returns-clause-back : goal.returns-clause-back
returns-clause-back c = back_again

pub returns-clause-fore : goal.returns-clause-fore
returns-clause-fore c = fore_again
