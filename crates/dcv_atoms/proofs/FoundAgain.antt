-- What a state is kept as finds the state again, whatever the form.
use Rattle.std.proofs.Common.{◌≡◌, ℕ, Option, None, Some, refl}
use Rattle.dcv_language.specs.AtomMachines.{ConstantState, One}
use Rattle.dcv_language.specs.AtomMachines.{PointState, PointStart, PointGood, PointBad}
use Rattle.dcv_language.specs.AtomMachines.{RunState, RunStart, RunFirst, RunOk, RunLast, RunDead}
use Rattle.dcv_language.specs.AtomMachines.{EveryState, EveryStart, EveryOk, EveryBad}
use Rattle.dcv_language.specs.AtomMachines.{UnitState, UnitStart, UnitOne, UnitGood, UnitDead}
use Rattle.dcv_language.specs.AtomMachines.{DurationState, DurationStart, Lasted}
use Rattle.dcv_shifts.specs.Machines.{BackState, BackStart, BackZero, BackOne, BackDead, ForeState, ForeStart, ForeOwe, ForeFree, ForeDead}
use Rattle.dcv_atoms.specs.AtomRows.{kept_constant, constant_found, kept_point, point_found, kept_run, run_found, kept_every, every_found}
use Rattle.dcv_atoms.specs.AtomRows.{kept_unit, unit_found, kept_count, count_found, kept_duration, duration_found}
use Rattle.dcv_atoms.specs.AtomRows.{kept_back, back_found, kept_fore, fore_found}

pub constant_again : (state : ConstantState) → constant_found (kept_constant state) ≡ state
constant_again One = refl

pub point_again : (state : PointState) → point_found (kept_point state) ≡ state
point_again PointStart = refl
point_again PointGood = refl
point_again PointBad = refl

pub run_again : (state : RunState) → run_found (kept_run state) ≡ state
run_again RunStart = refl
run_again RunFirst = refl
run_again RunOk = refl
run_again RunLast = refl
run_again RunDead = refl

pub every_again : (state : EveryState) → every_found (kept_every state) ≡ state
every_again EveryStart = refl
every_again EveryOk = refl
every_again EveryBad = refl

pub unit_again : (state : UnitState) → unit_found (kept_unit state) ≡ state
unit_again UnitStart = refl
unit_again UnitOne = refl
unit_again UnitGood = refl
unit_again UnitDead = refl

pub count_again : (state : Option ℕ) → count_found (kept_count state) ≡ state
count_again None = refl
count_again (Some count) = refl

pub duration_again : (state : DurationState) → duration_found (kept_duration state) ≡ state
duration_again DurationStart = refl
duration_again (Lasted count last) = refl

pub back_again : (state : BackState) → back_found (kept_back state) ≡ state
back_again BackStart = refl
back_again BackZero = refl
back_again BackOne = refl
back_again BackDead = refl

pub fore_again : (state : ForeState) → fore_found (kept_fore state) ≡ state
fore_again ForeStart = refl
fore_again ForeOwe = refl
fore_again ForeFree = refl
fore_again ForeDead = refl
