-- The working machine of each form, over the states that the code keeps.
--     kept_.., .._found              what a state of a form's machine is kept as, and the state that is kept so
--     machine_by slots basic P T     the machine of a form, with these tests of a letter for its proposition and for its slot
--     test_by, test_of basic         whether its proposition, where it has one, holds in a letter
--     slot_test_of basic             whether the slot of a shift is true in it
--     atom_machine slots basic       the machine of a form
--     after_letter basic from holds shifted
--                                    the state after a letter in which the proposition holds, and the slot is true, or not
-- A state that is none of a form's own is found to be one from which no word is accepted, or the start.
use Rattle.std.specs.Prelude.{ℕ, Bool, false, List, [], Option, None, Some}
use Rattle.dcv_logic.specs.Satisfaction.{compares}
use Rattle.dcv_language.specs.Automaton.{WorkingMachine}
use Rattle.dcv_language.specs.AtomMachines.{ConstantState, One, constant_machine}
use Rattle.dcv_language.specs.AtomMachines.{PointState, PointStart, PointGood, PointBad, point_machine}
use Rattle.dcv_language.specs.AtomMachines.{RunState, RunStart, RunFirst, RunOk, RunLast, RunDead, run_machine}
use Rattle.dcv_language.specs.AtomMachines.{EveryState, EveryStart, EveryOk, EveryBad, every_machine}
use Rattle.dcv_language.specs.AtomMachines.{UnitState, UnitStart, UnitOne, UnitGood, UnitDead, unit_machine}
use Rattle.dcv_language.specs.AtomMachines.{slen_machine, scount_machine, DurationState, DurationStart, Lasted as DurationLasted, sdur_machine}
use Rattle.dcv_shifts.specs.Machines.{BackState, BackStart, BackZero, BackOne, BackDead, back_machine}
use Rattle.dcv_shifts.specs.Machines.{ForeState, ForeStart, ForeOwe, ForeFree, ForeDead, fore_machine}
use Rattle.dcv_syntax.specs.declared.formulas.Bracket.TheVariants.{Point, Run, Every, Unit as TwoInstants}
use Rattle.dcv_syntax.specs.declared.formulas.Count.TheVariants.{Scount, Sdur}
use Rattle.dcv_syntax.specs.declared.propositions.Direction.TheVariants.{Prior, Next}
use Rattle.dcv_core.specs.Core.{PlainTruth, TruthSlot, PlainBasic, BasicConstant, BasicBracketed, BasicSlen, BasicCounted, BasicTrack, truth_in}
use Rattle.dcv_core.specs.Holds.{truth_holds}
use Rattle.dcv_atoms.specs.declared.states.AtomMacro.{AtomMacro}
use Rattle.dcv_atoms.specs.declared.states.AtomMacro.TheVariants.{Start, First, Good, Last, Bad, Count, Lasted}
use Rattle.dcv_atoms.specs.Embedded.{embedded}

-- ---- constants

abbrev pub kept_constant : ConstantState → AtomMacro
kept_constant One = Start

abbrev pub constant_found : AtomMacro → ConstantState
constant_found state = One

-- ---- one instant, where P holds

abbrev pub kept_point : PointState → AtomMacro
kept_point PointStart = Start
kept_point PointGood = Good
kept_point PointBad = Bad

abbrev pub point_found : AtomMacro → PointState
point_found Start = PointStart
point_found Good = PointGood
point_found state = PointBad

-- ---- more than one instant, and P at each but the last

abbrev pub kept_run : RunState → AtomMacro
kept_run RunStart = Start
kept_run RunFirst = First
kept_run RunOk = Good
kept_run RunLast = Last
kept_run RunDead = Bad

abbrev pub run_found : AtomMacro → RunState
run_found Start = RunStart
run_found First = RunFirst
run_found Good = RunOk
run_found Last = RunLast
run_found state = RunDead

-- ---- P at each instant

abbrev pub kept_every : EveryState → AtomMacro
kept_every EveryStart = Start
kept_every EveryOk = Good
kept_every EveryBad = Bad

abbrev pub every_found : AtomMacro → EveryState
every_found Start = EveryStart
every_found Good = EveryOk
every_found state = EveryBad

-- ---- two instants, and P at the first

abbrev pub kept_unit : UnitState → AtomMacro
kept_unit UnitStart = Start
kept_unit UnitOne = First
kept_unit UnitGood = Good
kept_unit UnitDead = Bad

abbrev pub unit_found : AtomMacro → UnitState
unit_found Start = UnitStart
unit_found First = UnitOne
unit_found Good = UnitGood
unit_found state = UnitDead

-- ---- a slot that says what P was one instant before

abbrev pub kept_back : BackState → AtomMacro
kept_back BackStart = Start
kept_back BackZero = Good
kept_back BackOne = First
kept_back BackDead = Bad

abbrev pub back_found : AtomMacro → BackState
back_found Start = BackStart
back_found Good = BackZero
back_found First = BackOne
back_found state = BackDead

-- ---- a slot that says what P is one instant later

abbrev pub kept_fore : ForeState → AtomMacro
kept_fore ForeStart = Start
kept_fore ForeOwe = First
kept_fore ForeFree = Good
kept_fore ForeDead = Bad

abbrev pub fore_found : AtomMacro → ForeState
fore_found Start = ForeStart
fore_found First = ForeOwe
fore_found Good = ForeFree
fore_found state = ForeDead

-- ---- measures

abbrev pub kept_count : Option ℕ → AtomMacro
kept_count None = Start
kept_count (Some count) = Count count

abbrev pub count_found : AtomMacro → Option ℕ
count_found (Count count) = Some count
count_found state = None

abbrev pub kept_duration : DurationState → AtomMacro
kept_duration DurationStart = Start
kept_duration (DurationLasted count last) = Lasted count last

abbrev pub duration_found : AtomMacro → DurationState
duration_found (Lasted count last) = DurationLasted count last
duration_found state = DurationStart

-- ---- all of them

abbrev pub machine_by : ℕ → PlainBasic → (P T : List Bool → Bool) → WorkingMachine AtomMacro
machine_by slots (BasicConstant truth) P T = embedded kept_constant constant_found (constant_machine slots truth)
machine_by slots (BasicBracketed Point p) P T = embedded kept_point point_found (point_machine slots P)
machine_by slots (BasicBracketed Run p) P T = embedded kept_run run_found (run_machine slots P)
machine_by slots (BasicBracketed Every p) P T = embedded kept_every every_found (every_machine slots P)
machine_by slots (BasicBracketed TwoInstants p) P T = embedded kept_unit unit_found (unit_machine slots P)
machine_by slots (BasicSlen relation n) P T = embedded kept_count count_found (slen_machine slots n (λ steps. compares relation steps n))
machine_by slots (BasicCounted Scount p relation n) P T = embedded kept_count count_found (scount_machine slots P n (λ count. compares relation count n))
machine_by slots (BasicCounted Sdur p relation n) P T = embedded kept_duration duration_found (sdur_machine slots P n (λ count. compares relation count n))
machine_by slots (BasicTrack Prior p slot) P T = embedded kept_back back_found (back_machine slots P T)
machine_by slots (BasicTrack Next p slot) P T = embedded kept_fore fore_found (fore_machine slots P T)

-- a form without a proposition asks nothing of a letter
abbrev pub test_by : Option PlainTruth → List Bool → Bool
test_by None letter = false
test_by (Some p) letter = truth_holds p letter

abbrev pub test_of : PlainBasic → List Bool → Bool
test_of basic letter = test_by (truth_in basic) letter

-- nor does a form that is no shift ask for a slot
abbrev pub slot_test_of : PlainBasic → List Bool → Bool
slot_test_of (BasicTrack direction p slot) letter = truth_holds (TruthSlot slot) letter
slot_test_of basic letter = false

abbrev pub atom_machine : ℕ → PlainBasic → WorkingMachine AtomMacro
atom_machine slots basic = machine_by slots basic (test_of basic) (slot_test_of basic)

abbrev pub after_letter : PlainBasic → AtomMacro → (holds shifted : Bool) → AtomMacro
after_letter basic from holds shifted = (machine_by 0 basic (λ letter. holds) (λ letter. shifted)).next from []

abbrev pub is_accepted : PlainBasic → AtomMacro → Bool
is_accepted basic state = (machine_by 0 basic (λ letter. false) (λ letter. false)).accepting state
