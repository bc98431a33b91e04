-- The working machines of the atoms: what each remembers, and its row. A proposition is a test of a letter.
use Rattle.std.specs.Prelude.{ℕ, suc, min, Bool, true, false, List, Option, None, Some, if◌then◌else◌}
use Rattle.dcv_language.specs.Automaton.{WorkingMachine}

-- ---- constants

pub data ConstantState : Type 0 where
  One : ConstantState

abbrev pub constant_machine : ℕ → Bool → WorkingMachine ConstantState
constant_machine slots truth = record {
  slots = slots;
  automaton = record { start = One; next = λ state letter. One; accepting = λ state. truth };
}

-- ---- one instant, where P holds

pub data PointState : Type 0 where
  PointStart : PointState
  PointGood : PointState
  PointBad : PointState

abbrev pub point_next : (List Bool → Bool) → PointState → List Bool → PointState
point_next P PointStart letter = if P letter then PointGood else PointBad
point_next P PointGood letter = PointBad
point_next P PointBad letter = PointBad

abbrev pub point_accepting : PointState → Bool
point_accepting PointStart = false
point_accepting PointGood = true
point_accepting PointBad = false

abbrev pub point_machine : ℕ → (List Bool → Bool) → WorkingMachine PointState
point_machine slots P = record {
  slots = slots;
  automaton = record { start = PointStart; next = point_next P; accepting = point_accepting };
}

-- ---- more than one instant, and P at each but the last

-- after one letter with P, after more of them, after a first letter without P after those, and after any more
pub data RunState : Type 0 where
  RunStart : RunState
  RunFirst : RunState
  RunOk : RunState
  RunLast : RunState
  RunDead : RunState

abbrev pub run_next : (List Bool → Bool) → RunState → List Bool → RunState
run_next P RunStart letter = if P letter then RunFirst else RunDead
run_next P RunFirst letter = if P letter then RunOk else RunLast
run_next P RunOk letter = if P letter then RunOk else RunLast
run_next P RunLast letter = RunDead
run_next P RunDead letter = RunDead

abbrev pub run_accepting : RunState → Bool
run_accepting RunStart = false
run_accepting RunFirst = false
run_accepting RunOk = true
run_accepting RunLast = true
run_accepting RunDead = false

abbrev pub run_machine : ℕ → (List Bool → Bool) → WorkingMachine RunState
run_machine slots P = record {
  slots = slots;
  automaton = record { start = RunStart; next = run_next P; accepting = run_accepting };
}

-- ---- P at each instant

pub data EveryState : Type 0 where
  EveryStart : EveryState
  EveryOk : EveryState
  EveryBad : EveryState

abbrev pub every_next : (List Bool → Bool) → EveryState → List Bool → EveryState
every_next P EveryStart letter = if P letter then EveryOk else EveryBad
every_next P EveryOk letter = if P letter then EveryOk else EveryBad
every_next P EveryBad letter = EveryBad

abbrev pub every_accepting : EveryState → Bool
every_accepting EveryStart = false
every_accepting EveryOk = true
every_accepting EveryBad = false

abbrev pub every_machine : ℕ → (List Bool → Bool) → WorkingMachine EveryState
every_machine slots P = record {
  slots = slots;
  automaton = record { start = EveryStart; next = every_next P; accepting = every_accepting };
}

-- ---- two instants, and P at the first

pub data UnitState : Type 0 where
  UnitStart : UnitState
  UnitOne : UnitState
  UnitGood : UnitState
  UnitDead : UnitState

abbrev pub unit_next : (List Bool → Bool) → UnitState → List Bool → UnitState
unit_next P UnitStart letter = if P letter then UnitOne else UnitDead
unit_next P UnitOne letter = UnitGood
unit_next P UnitGood letter = UnitDead
unit_next P UnitDead letter = UnitDead

abbrev pub unit_accepting : UnitState → Bool
unit_accepting UnitStart = false
unit_accepting UnitOne = false
unit_accepting UnitGood = true
unit_accepting UnitDead = false

abbrev pub unit_machine : ℕ → (List Bool → Bool) → WorkingMachine UnitState
unit_machine slots P = record {
  slots = slots;
  automaton = record { start = UnitStart; next = unit_next P; accepting = unit_accepting };
}

-- ---- measures: a count that stays at n + 1 once it is above n

abbrev pub capped : ℕ → ℕ → ℕ
capped n number = min number (suc n)

-- no count before the first letter
abbrev pub meets_count : (ℕ → Bool) → Option ℕ → Bool
meets_count meets None = false
meets_count meets (Some count) = meets count

abbrev pub slen_next : ℕ → Option ℕ → List Bool → Option ℕ
slen_next n None letter = Some 0
slen_next n (Some count) letter = Some (capped n (suc count))

abbrev pub slen_machine : ℕ → ℕ → (ℕ → Bool) → WorkingMachine (Option ℕ)
slen_machine slots n meets = record {
  slots = slots;
  automaton = record { start = None; next = slen_next n; accepting = meets_count meets };
}

abbrev pub scount_next : ℕ → (List Bool → Bool) → Option ℕ → List Bool → Option ℕ
scount_next n P None letter = Some (if P letter then 1 else 0)
scount_next n P (Some count) letter = Some (if P letter then capped n (suc count) else count)

abbrev pub scount_machine : ℕ → (List Bool → Bool) → ℕ → (ℕ → Bool) → WorkingMachine (Option ℕ)
scount_machine slots P n meets = record {
  slots = slots;
  automaton = record { start = None; next = scount_next n P; accepting = meets_count meets };
}

-- what is counted before the last instant, and whether P holds there
pub data DurationState : Type 0 where
  DurationStart : DurationState
  Lasted : ℕ → Bool → DurationState

abbrev pub sdur_next : ℕ → (List Bool → Bool) → DurationState → List Bool → DurationState
sdur_next n P DurationStart letter = Lasted 0 (P letter)
sdur_next n P (Lasted count last) letter = Lasted (if last then capped n (suc count) else count) (P letter)

abbrev pub sdur_accepting : (ℕ → Bool) → DurationState → Bool
sdur_accepting meets DurationStart = false
sdur_accepting meets (Lasted count last) = meets count

abbrev pub sdur_machine : ℕ → (List Bool → Bool) → ℕ → (ℕ → Bool) → WorkingMachine DurationState
sdur_machine slots P n meets = record {
  slots = slots;
  automaton = record { start = DurationStart; next = sdur_next n P; accepting = sdur_accepting meets };
}
