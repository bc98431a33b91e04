-- The same words of the arenas that an operation holds.
--     HasArenas sources                     what is true of every arena is true of both
--     IsIn sources operand                  the ref is one of its arena's
--     IsFrom sources slot operand           and depends on no slot before this one
--     numbers_in sources operands letter    the operands' numbers at a letter
--     HaveSideOf sources operands slot value parts    the parts have the operands' numbers with the slot fixed to the value
--     merged_by operation operands letter     the numbers that are merged there
--     IsSide operation operands slot value round side    operands in the operation's round that have the numbers of these with the slot fixed to the value
use Rattle.std.specs.Prelude.{◌≡◌, ℕ, ◌+◌, ◌<◌, Bool, List, length, slice_set}
use Rattle.std.specs.List.{All}
use Rattle.dcv_arena.specs.Arena.{IsArena}
use Rattle.dcv_arena.specs.Pointwise.{FixesSlot}
use Rattle.dcv_arena.specs.declared.nodes.Ref.{Ref}
use Rattle.dcv_apply.specs.Operands.{IsOperand, IsOperandFrom, number_at, numbers_at, merged_at}
use Rattle.dcv_apply.specs.declared.operands.Sources.{Sources}
use Rattle.dcv_apply.specs.declared.merging.Operation.{Operation}

pub record HasArenas (sources : Sources) : Type 0 where
  pub first : IsArena sources.first.now
  pub second : IsArena sources.second.now

abbrev pub IsIn : Sources → ℕ × Ref → Type 0
IsIn sources operand = IsOperand sources.first.now sources.second.now operand

abbrev pub IsFrom : Sources → ℕ → ℕ × Ref → Type 0
IsFrom sources slot operand = IsOperandFrom sources.first.now sources.second.now slot operand

abbrev pub number_in : Sources → List Bool → ℕ × Ref → ℕ
number_in sources letter operand = number_at sources.first.now sources.second.now letter operand

abbrev pub numbers_in : Sources → List (ℕ × Ref) → List Bool → List ℕ
numbers_in sources operands letter = numbers_at sources.first.now sources.second.now operands letter

abbrev pub HaveSideOf : Sources → List (ℕ × Ref) → ℕ → Bool → List (ℕ × Ref) → Type 0
HaveSideOf sources operands slot value parts = (letter : List Bool) → slot < length letter
    → numbers_in sources parts letter ≡ numbers_in sources operands (slice_set letter slot value)

abbrev pub merged_by : Operation → List (ℕ × Ref) → List Bool → List ℕ
merged_by operation operands letter = merged_at operation.last_slot operation.sources.first.now operation.sources.second.now operands letter

pub record IsSide (operation : Operation) (operands : List (ℕ × Ref)) (slot : ℕ) (value : Bool) (side_round : ℕ) (side : List (ℕ × Ref)) : Type 0 where
  pub round : side_round ≡ operation.round
  pub from : All (IsFrom operation.sources (slot + 1)) side
  pub fixed : FixesSlot (merged_by operation operands) (merged_by operation side) slot value
