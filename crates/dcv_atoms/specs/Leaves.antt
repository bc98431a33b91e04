-- How a state is told by two numbers, which stand among the operands of its row.
--     number_of state            which of the states it is, but for what was counted
--     count_of state             what was counted
--     state_told number count    the state of which these are the two
--     leaf_count form            how many numbers a row has: the two, that of the proposition, and that of a shift's slot
use Rattle.std.specs.Prelude.{◌==◌, ℕ, if◌then◌else◌}
use Rattle.dcv_core.specs.Core.{PlainBasic, BasicTrack}
use Rattle.dcv_atoms.specs.declared.states.AtomMacro.{AtomMacro}
use Rattle.dcv_atoms.specs.declared.states.AtomMacro.TheVariants.{Start, First, Good, Last, Bad, Count, Lasted}

abbrev pub number_of : AtomMacro → ℕ
number_of Start = 0
number_of First = 1
number_of Good = 2
number_of Last = 3
number_of Bad = 4
number_of (Count count) = 5
number_of (Lasted count last) = if last then 7 else 6

abbrev pub count_of : AtomMacro → ℕ
count_of (Count count) = count
count_of (Lasted count last) = count
count_of state = 0

abbrev pub state_told : ℕ → ℕ → AtomMacro
state_told number count =
    if number == 0 then Start
    else if number == 1 then First
    else if number == 2 then Good
    else if number == 3 then Last
    else if number == 4 then Bad
    else if number == 5 then Count count
    else Lasted count (number == 7)

abbrev pub leaf_count : PlainBasic → ℕ
leaf_count (BasicTrack direction p slot) = 4
leaf_count _ = 3
