-- The row of each step: the machine that is explored for it, over the canonical tables of its operands.
--     atom_row slots basic       of a form without a formula in it
--     state_row machine          of a machine whose states are numbers, pairs of them, the states of a chop or of a star, or sets
--     row_of op slots tables     of an operator, where there is a table for each earlier step
use Rattle.std.specs.Prelude.{◌≡◌, ℕ, true, false, List, [], slice_index_or, refl}
use Rattle.std.proofs.Common.{sym, ◌∙◌}
use Rattle.dcv_language.specs.Automaton.{Automaton, WorkingMachine}
use Rattle.dcv_language.specs.Table.{Table, automaton_of}
use Rattle.dcv_language.specs.OperationMachines.{not_machine, pair_machine, ChopState, chop_machine, StarState, star_machine, exists_machine}
use Rattle.dcv_core.specs.Core.{PlainBasic}
use Rattle.dcv_logic.specs.Connectives.{joins}
use Rattle.dcv_core.specs.Steps.{PlainOp, OpAtom, OpNot, OpJoined, OpChop, OpStar, OpExists}
use Rattle.dcv_explore.specs.Budget.{Row}
use Rattle.dcv_atoms.specs.declared.states.AtomMacro.{AtomMacro}
use Rattle.dcv_atoms.specs.declared.states.AtomMacro.TheVariants.{Start, First, Good, Last, Bad, Count, Lasted}
use Rattle.dcv_atoms.specs.AtomRows.{atom_machine}
use Rattle.dcv_atoms.specs.Leaves.{number_of, count_of, state_told}
use Rattle.dcv_atoms.specs.Parts.{atom_nodes}
use Rattle.dcv_build.specs.Numbers.{number_of_pair, number_of_list, number_of_truth, pairs_apart, lists_apart, truths_apart}

-- ---- states that are numbers

abbrev pub number_row : WorkingMachine ℕ → Row
number_row machine = record { State = ℕ; machine = machine; number = λ state. state; apart = λ first second same. same; parts = 0 }

-- ---- pairs

pub two_apart : (first second : ℕ × ℕ) → number_of_pair first.0 first.1 ≡ number_of_pair second.0 second.1 → first ≡ second
two_apart first second same = let parts = pairs_apart first.0 first.1 second.0 second.1 same in λ i. (parts.0 i, parts.1 i)

abbrev pub pair_row : WorkingMachine (ℕ × ℕ) → Row
pair_row machine = record {
  State = ℕ × ℕ;
  machine = machine;
  number = λ state. number_of_pair state.0 state.1;
  apart = two_apart;
  parts = 0;
}

-- ---- chop and star

pub chops_apart : (first second : ChopState) → number_of_pair first.first (number_of_list first.seconds) ≡ number_of_pair second.first (number_of_list second.seconds) → first ≡ second
chops_apart first second same =
    let parts = pairs_apart first.first (number_of_list first.seconds) second.first (number_of_list second.seconds) same in
    let seconds = lists_apart first.seconds second.seconds parts.1 in
    λ i. record { first = parts.0 i; seconds = seconds i }

abbrev pub chop_row : WorkingMachine ChopState → Row
chop_row machine = record {
  State = ChopState;
  machine = machine;
  number = λ state. number_of_pair state.first (number_of_list state.seconds);
  apart = chops_apart;
  parts = 0;
}

pub stars_apart : (first second : StarState) → number_of_pair (number_of_truth first.cut) (number_of_list first.states) ≡ number_of_pair (number_of_truth second.cut) (number_of_list second.states) → first ≡ second
stars_apart first second same =
    let parts = pairs_apart (number_of_truth first.cut) (number_of_list first.states) (number_of_truth second.cut) (number_of_list second.states) same in
    let cut = truths_apart first.cut second.cut parts.0 in
    let states = lists_apart first.states second.states parts.1 in
    λ i. record { cut = cut i; states = states i }

abbrev pub star_row : WorkingMachine StarState → Row
star_row machine = record {
  State = StarState;
  machine = machine;
  number = λ state. number_of_pair (number_of_truth state.cut) (number_of_list state.states);
  apart = stars_apart;
  parts = 0;
}

-- ---- sets

abbrev pub set_row : WorkingMachine (List ℕ) → Row
set_row machine = record { State = List ℕ; machine = machine; number = number_of_list; apart = lists_apart; parts = 0 }

-- ---- forms without a formula in them

abbrev pub number_of_atom : AtomMacro → ℕ
number_of_atom state = number_of_pair (number_of state) (count_of state)

-- the state is told by the two
told : (state : AtomMacro) → state_told (number_of state) (count_of state) ≡ state
told Start = refl
told First = refl
told Good = refl
told Last = refl
told Bad = refl
told (Count count) = refl
told (Lasted count false) = refl
told (Lasted count true) = refl

pub atoms_apart : (first second : AtomMacro) → number_of_atom first ≡ number_of_atom second → first ≡ second
atoms_apart first second same =
    let parts = pairs_apart (number_of first) (count_of first) (number_of second) (count_of second) same in
    sym (told first) ∙ (λ i. state_told (parts.0 i) (parts.1 i)) ∙ told second

abbrev pub atom_row : ℕ → PlainBasic → Row
atom_row slots basic = record {
  State = AtomMacro;
  machine = atom_machine slots basic;
  number = number_of_atom;
  apart = atoms_apart;
  parts = atom_nodes slots basic;
}

-- ---- the row of a step

-- what the table of an earlier step stands for
abbrev pub operand_at : List Table → ℕ → Automaton ℕ
operand_at tables step = automaton_of (slice_index_or tables step [])

abbrev pub row_of : PlainOp → ℕ → List Table → Row
row_of (OpAtom basic) slots tables = atom_row slots basic
row_of (OpNot d) slots tables = number_row (not_machine slots (operand_at tables d))
row_of (OpJoined connective c d) slots tables = pair_row (pair_machine slots (joins connective) (operand_at tables c) (operand_at tables d))
row_of (OpChop c d) slots tables = chop_row (chop_machine slots (operand_at tables c) (operand_at tables d))
row_of (OpStar d) slots tables = star_row (star_machine slots (operand_at tables d))
-- its operand is over one slot more
row_of (OpExists d) slots tables = set_row (exists_machine slots (operand_at tables d))
