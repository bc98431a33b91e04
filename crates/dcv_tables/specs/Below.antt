-- Functions whose numbers are below a bound.
--     IsBelow arena bound slot root     the ref is the arena's, its function depends on no slot before this one, and its numbers are below the bound
use Rattle.std.specs.Prelude.{ℕ, ◌<◌, ◌≤◌, Bool, List}
use Rattle.dcv_arena.specs.Arena.{ArenaValue, IsRef, level_of, value_of}
use Rattle.dcv_arena.specs.declared.nodes.Ref.{Ref}

pub record IsBelow (arena : ArenaValue) (bound slot : ℕ) (root : Ref) : Type 0 where
  pub is_ref : IsRef arena root
  pub level : slot ≤ level_of arena root
  pub below : (letter : List Bool) → value_of arena root letter < bound
