-- The functions of one arena in another, which may have more slots.
--     DependsOnFirst arena slots ref   the function depends on no slot but the first so many
--     IsCopy from arena old new        the one ref means here what the other means there
--     copied_ref copies old            the ref here of a ref there, given those of the places there
--     HasCopies from arena copies      the first places there have these copies
use Rattle.std.specs.Prelude.{◌≡◌, ℕ, ◌<◌, ◌≤◌, Bool, false, List, length, slice_index_or}
use Rattle.dcv_arena.specs.Arena.{ArenaValue, IsRef, level_of, value_of}
use Rattle.dcv_arena.specs.declared.nodes.Ref.{Ref}
use Rattle.dcv_arena.specs.declared.nodes.Ref.TheVariants.{Leaf, Place}

-- at letters that agree in these slots it has one number
abbrev pub DependsOnFirst : ArenaValue → ℕ → Ref → Type 0
DependsOnFirst arena slots ref = (first second : List Bool) → ((slot : ℕ) → slot < slots → slice_index_or first slot false ≡ slice_index_or second slot false)
    → value_of arena ref first ≡ value_of arena ref second

-- (at each letter, however long: a slot that it does not have is false)
pub record IsCopy (from arena : ArenaValue) (old new : Ref) : Type 0 where
  pub is_ref : IsRef arena new
  pub level : level_of from old ≤ level_of arena new
  pub value : (letter : List Bool) → value_of arena new letter ≡ value_of from old letter

abbrev pub copied_ref : List Ref → Ref → Ref
copied_ref copies (Leaf number) = Leaf number
copied_ref copies (Place place) = slice_index_or copies place (Leaf 0)

pub record HasCopies (from arena : ArenaValue) (copies : List Ref) : Type 0 where
  pub slots : from.slots ≤ arena.slots
  pub each : (place : ℕ) → place < length copies → IsCopy from arena (Place place) (slice_index_or copies place (Leaf 0))
