-- What is merged. An operand is a place, 0 for the first arena and else the second, and a ref there.
--     arena_at first second place            the arena of a place
--     IsOperand first second operand         the ref is one of its arena's
--     numbers_at first second operands letter    the operands' numbers at a letter, in order; a slot that the letter does not have is false
--     numbers_at_both first second operands letter    their numbers where the slot after the letter is false, and then those where it is true
--     merged_at last_slot first second operands letter   the numbers that are merged there
--     DependsFrom arena slot ref             the ref's function depends on no slot before this one
use Rattle.std.specs.Prelude.{ℕ, ◌==◌, ◌≤◌, Bool, false, true, if◌then◌else◌, List, [], ◌∷◌, ◌++◌, map}
use Rattle.dcv_arena.specs.Arena.{ArenaValue, IsRef, level_of, value_of}
use Rattle.dcv_arena.specs.declared.nodes.Ref.{Ref}
use Rattle.dcv_arena.specs.declared.nodes.Ref.TheVariants.{Leaf, Place}
use Rattle.dcv_apply.specs.declared.operands.LastSlot.{LastSlot}
use Rattle.dcv_apply.specs.declared.operands.LastSlot.TheVariants.{Kept, Merged}

abbrev pub arena_at : ArenaValue → ArenaValue → ℕ → ArenaValue
arena_at first second place = if place == 0 then first else second

abbrev pub IsOperand : ArenaValue → ArenaValue → ℕ × Ref → Type 0
IsOperand first second operand = IsRef (arena_at first second operand.0) operand.1

abbrev pub number_at : ArenaValue → ArenaValue → List Bool → ℕ × Ref → ℕ
number_at first second letter operand = value_of (arena_at first second operand.0) operand.1 letter

abbrev pub numbers_at : ArenaValue → ArenaValue → List (ℕ × Ref) → List Bool → List ℕ
numbers_at first second operands letter = map (number_at first second letter) operands

abbrev pub numbers_at_both : ArenaValue → ArenaValue → List (ℕ × Ref) → List Bool → List ℕ
numbers_at_both first second operands letter =
    numbers_at first second operands (letter ++ false ∷ []) ++ numbers_at first second operands (letter ++ true ∷ [])

abbrev pub DependsFrom : ArenaValue → ℕ → Ref → Type 0
DependsFrom arena slot (Leaf number) = Unit {0}
DependsFrom arena slot (Place place) = slot ≤ level_of arena (Place place)

-- the numbers that are merged at a letter
abbrev pub merged_at : LastSlot → ArenaValue → ArenaValue → List (ℕ × Ref) → List Bool → List ℕ
merged_at Kept first second operands letter = numbers_at first second operands letter
merged_at Merged first second operands letter = numbers_at_both first second operands letter

-- an operand that depends on no slot before this one
pub record IsOperandFrom (first second : ArenaValue) (slot : ℕ) (operand : ℕ × Ref) : Type 0 where
  pub is_operand : IsOperand first second operand
  pub depends : DependsFrom (arena_at first second operand.0) slot operand.1
