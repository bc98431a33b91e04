-- What looking for a node answers, which adds it where it is not there.
use Rattle.std.specs.Prelude.{◌≡◌, ◌≢◌, ℕ, ◌<◌, [], ◌∷◌, ◌++◌, length, Some, slice_get, Result, Ok, Err, ◌⊎◌}
use Rattle.dcv_arena.specs.Arena.{ArenaValue}
use Rattle.dcv_arena.specs.declared.nodes.Node.{Node}
use Rattle.dcv_arena.specs.declared.faults.ArenaFault.{ArenaFault}
use Rattle.dcv_arena.specs.declared.faults.ArenaFault.TheVariants.{Full, Memory}

abbrev pub IsAbsent : ArenaValue → Node → Type 0
IsAbsent arena node = (place : ℕ) → slice_get arena.nodes place ≢ Some node

-- the place of the node in the arena as it was, or the last one in an arena that had room for it, or why it was not added
abbrev pub IsPlaced : ArenaValue → Node → ArenaValue → Result ℕ ArenaFault → Type 0
IsPlaced old node new (Ok place) =
    ((slice_get old.nodes place ≡ Some node) × (new ≡ old))
    ⊎ (IsAbsent old node × (length old.nodes < old.limit) × (place ≡ length old.nodes) × (new ≡ record old { nodes = old.nodes ++ node ∷ [] }))
IsPlaced old node new (Err Memory) = IsAbsent old node × (length old.nodes < old.limit) × (new ≡ old)
IsPlaced old node new (Err (Full limit)) = IsAbsent old node × (limit ≡ old.limit) × (length old.nodes ≡ old.limit) × (new ≡ old)
