-- For the proofs alone: what a build knows. Its automata stand on a shelf, and operators that were explored are found again by the
-- numbers of their operands there. The steps of a core speak of earlier steps by number, and an operator that is asked for speaks of
-- tables of the shelf by number, so one definition of rows serves both.
--     at_number, tables_at              the table with a number, and those with these numbers
--     asked_row shelf asked             the row of an operator over the tables of the shelf
--     AreOperands shelf asked           its operands are there, of widths that it can take
--     IsAnswer                          the number is that of the canonical table of this row, which is within the limits, with exact counts
--     AreAnswers shelf limits entries   each entry of the map is an answer: no step and no tree is in it, so it stays right while the shelf grows
--     KnownValue                        what contracts see of what is known
--     IsRecalled                        an automaton of the shelf, beside the counts of an answer
--     IsPut, IsTurned                   what stands on the shelf after an automaton is added, or the complement of one
use Rattle.std.specs.Prelude.{◌≡◌, ℕ, ◌-◌, ◌<◌, List, [], length, map, Some, slice_get, slice_index_or, Result, Contains}
use Rattle.std.specs.List.{All}
use Rattle.dcv_language.specs.Table.{Table}
use Rattle.dcv_core.specs.Steps.{PlainOp, OpJoined, OpChop, OpStar, OpExists}
use Rattle.dcv_dfa.specs.Auto.{IsAuto}
use Rattle.dcv_dfa.specs.Raw.{IsRaw}
use Rattle.dcv_explore.specs.declared.explorer.Limits.{Limits}
use Rattle.dcv_explore.specs.Budget.{Row}
use Rattle.dcv_shelf.specs.Shelf.{ShelfTable, table_of_auto, nodes_of_table, IsComplement}
use Rattle.dcv_build.specs.Rows.{row_of}
use Rattle.dcv_build.specs.Settled.{SettlesUpTo, Serves, Decides, IsFor, Answers}
use Rattle.dcv_build.specs.declared.asked.Answer.{Answer}
use Rattle.dcv_build.specs.declared.asked.Asked.{Asked}
use Rattle.dcv_build.specs.declared.asked.Asked.TheVariants.{Joined, Chop, Star, Exists}
use Rattle.dcv_build.specs.declared.faults.BuildFault.{BuildFault}
use Rattle.dcv_build.specs.declared.settling.Explored.{Explored}
use Rattle.dcv_build.specs.declared.settling.Extent.{Extent}
use Rattle.dcv_build.specs.declared.settling.Made.{Made}

-- ---- numbers

abbrev pub no_table : ShelfTable
no_table = record { slots = 0; table = [] }

abbrev pub at_number : List ShelfTable → ℕ → ShelfTable
at_number shelf number = slice_index_or shelf number no_table

abbrev pub tables_at : List ShelfTable → List ℕ → List ShelfTable
tables_at shelf numbers = map (at_number shelf) numbers

abbrev pub AreThere : List ShelfTable → List ℕ → Type 0
AreThere shelf numbers = All (λ number. number < length shelf) numbers

-- ---- operators

abbrev pub op_of : Asked → PlainOp
op_of (Joined connective c d) = OpJoined connective c d
op_of (Chop c d) = OpChop c d
op_of (Star d) = OpStar d
op_of (Exists d) = OpExists d

abbrev pub slots_of : List ShelfTable → Asked → ℕ
slots_of shelf (Joined connective c d) = (at_number shelf c).slots
slots_of shelf (Chop c d) = (at_number shelf c).slots
slots_of shelf (Star d) = (at_number shelf d).slots
-- its operand is over one slot more
slots_of shelf (Exists d) = (at_number shelf d).slots - 1

abbrev pub plain_tables : List ShelfTable → List Table
plain_tables shelf = map (λ (one : ShelfTable). one.table) shelf

abbrev pub asked_row : List ShelfTable → Asked → Row
asked_row shelf asked = row_of (op_of asked) (slots_of shelf asked) (plain_tables shelf)

pub record AreTwo (shelf : List ShelfTable) (c d : ℕ) : Type 0 where
  pub first : c < length shelf
  pub second : d < length shelf
  pub slots : (at_number shelf c).slots ≡ (at_number shelf d).slots

pub record IsWide (shelf : List ShelfTable) (d : ℕ) : Type 0 where
  pub there : d < length shelf
  pub some : 0 < (at_number shelf d).slots

abbrev pub AreOperands : List ShelfTable → Asked → Type 0
AreOperands shelf (Joined connective c d) = AreTwo shelf c d
AreOperands shelf (Chop c d) = AreTwo shelf c d
AreOperands shelf (Star d) = d < length shelf
AreOperands shelf (Exists d) = IsWide shelf d

abbrev pub SettlesAsked : Extent → List ShelfTable → Asked → Limits → ℕ → Result Explored BuildFault → Type 0
SettlesAsked extent shelf asked limits step result = SettlesUpTo extent (asked_row shelf asked).machine (asked_row shelf asked).parts limits step result

abbrev pub ServesAsked : List ShelfTable → Asked → Limits → ℕ → Result Explored BuildFault → Type 0
ServesAsked shelf asked limits step result = Serves (asked_row shelf asked).machine (asked_row shelf asked).parts limits step result

abbrev pub DecidesAsked : List ShelfTable → Asked → Limits → ℕ → Result Explored BuildFault → Type 0
DecidesAsked shelf asked limits step result = Decides (asked_row shelf asked).machine (asked_row shelf asked).parts limits step result

abbrev pub AnswersAsked : List ShelfTable → Asked → Limits → ℕ → List ShelfTable → Result Answer BuildFault → Type 0
AnswersAsked shelf asked limits step after result = Answers (asked_row shelf asked).machine (asked_row shelf asked).parts limits step after result

-- ---- what is known

pub record IsAnswer (shelf : List ShelfTable) (limits : Limits) (asked : Asked) (answer : Answer) : Type 0 where
  pub operands : AreOperands shelf asked
  pub is_for : IsFor (asked_row shelf asked).machine (asked_row shelf asked).parts limits shelf answer

abbrev pub AreAnswers : List ShelfTable → Limits → List (Asked × Answer) → Type 0
AreAnswers shelf limits entries = (asked : Asked) (answer : Answer) → Contains entries (asked, answer) → IsAnswer shelf limits asked answer

pub record KnownValue : Type 0 where
  pub tables : List ShelfTable
  pub limits : Limits

pub record IsRecalled (shelf : List ShelfTable) (answer : Answer) (explored : Explored) : Type 0 where
  pub raw : IsRaw explored.raw
  pub auto : IsAuto explored.raw
  pub there : slice_get shelf answer.number ≡ Some (table_of_auto explored.raw)
  pub states : explored.states ≡ answer.states
  pub nodes : explored.nodes ≡ answer.nodes

pub record IsPut (made : Made) (shelf : List ShelfTable) (answer : Answer) : Type 0 where
  pub there : slice_get shelf answer.number ≡ Some (table_of_auto made.auto)
  pub states : answer.states ≡ made.states
  pub nodes : answer.nodes ≡ made.nodes

pub record IsTurned (one : ShelfTable) (shelf : List ShelfTable) (answer : Answer) : Type 0 where
  pub turned : ShelfTable
  pub complement : IsComplement one turned
  pub there : slice_get shelf answer.number ≡ Some turned
  pub states : answer.states ≡ length one.table
  pub nodes : answer.nodes ≡ nodes_of_table one
