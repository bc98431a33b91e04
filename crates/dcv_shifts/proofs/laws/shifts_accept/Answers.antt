use Rattle.dcv_shifts.proofs.Runs.{back_accepts, fore_accepts}
use Rattle.dcv_shifts.proofs.laws.shifts_accept.Goals as goal

pub returns : goal.returns
returns c = record { back = back_accepts; fore = fore_accepts }
