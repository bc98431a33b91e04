-- What places became in a round of renumbering: a list that has it at each place, if the place became anything.
--     HasBecome became place new    the place became this ref
use Rattle.std.specs.Prelude.{◌≡◌, ℕ, List, Option, Some, slice_get}
use Rattle.dcv_arena.specs.declared.nodes.Ref.{Ref}

abbrev pub HasBecome : List (Option Ref) → ℕ → Ref → Type 0
HasBecome became place new = slice_get became place ≡ Some (Some new)
