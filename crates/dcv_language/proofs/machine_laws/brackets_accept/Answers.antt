use Rattle.dcv_language.proofs.AtomRuns.{constant_accepts, point_accepts, run_accepts, every_accepts, unit_accepts}
use Rattle.dcv_language.proofs.machine_laws.brackets_accept.Goals as goal

pub returns-clause-constant : goal.returns-clause-constant
returns-clause-constant c = constant_accepts

pub returns-clause-point : goal.returns-clause-point
returns-clause-point c = point_accepts

pub returns-clause-run : goal.returns-clause-run
returns-clause-run c = run_accepts

pub returns-clause-every : goal.returns-clause-every
returns-clause-every c = every_accepts

pub returns-clause-unit : goal.returns-clause-unit
returns-clause-unit c = unit_accepts
