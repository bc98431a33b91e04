-- Diagrams of propositions, and how numbers of two are joined.
--     Means arena root slots P     the ref is a function of letters of so many slots: 1 where the test holds, and 0 where it does not
--     HasTruths arena root         the ref has no other numbers than these
--     FunctionValue, IsFunction    what contracts see of a function with an arena of its own, and what is true of each
use Rattle.std.specs.Prelude.{◌≡◌, ◌<◌, ◌==◌, ℕ, Bool, List, length, slice_index_or}
use Rattle.dcv_arena.specs.Arena.{ArenaValue, IsArena, IsRef, value_of}
use Rattle.dcv_arena.specs.declared.nodes.Ref.{Ref}
use Rattle.dcv_syntax.specs.declared.propositions.Connective.{Connective}
use Rattle.dcv_logic.specs.Connectives.{joins}
use Rattle.dcv_atoms.specs.Parts.{number_of_truth}

pub record Means (arena : ArenaValue) (root : Ref) (slots : ℕ) (P : List Bool → Bool) : Type 0 where
  pub is_ref : IsRef arena root
  pub slots_are : arena.slots ≡ slots
  pub value : (letter : List Bool) → length letter ≡ slots → value_of arena root letter ≡ number_of_truth (P letter)

abbrev pub HasTruths : ArenaValue → Ref → Type 0
HasTruths arena root = (letter : List Bool) → length letter ≡ arena.slots → value_of arena root letter < 2

pub record FunctionValue : Type 0 where
  pub arena : ArenaValue
  pub root : Ref

pub record IsFunction (function : FunctionValue) : Type 0 where
  pub arena : IsArena function.arena
  pub is_ref : IsRef function.arena function.root
  pub truths : HasTruths function.arena function.root

-- ---- two numbers merged

abbrev pub IsTwo : List ℕ → Type 0
IsTwo numbers = length numbers ≡ 2

-- 1 where the truths that two numbers stand for are joined to true
abbrev pub number_joined : Connective → List ℕ → ℕ
number_joined connective numbers = number_of_truth (joins connective (slice_index_or numbers 0 0 == 1) (slice_index_or numbers 1 0 == 1))
