-- Diagrams of functions that are given by their tables.
use Rattle.std.specs.Prelude.{◌≡◌, ℕ, List, length, map, All}
use Rattle.dcv_arena.specs.Arena.{ArenaValue, IsArena, IsRef, table_of, HasOnlyNodesOf}
use Rattle.dcv_arena.specs.Diagram.{node_count}
use Rattle.dcv_arena.specs.declared.nodes.Ref.{Ref}

-- an arena with refs of these tables, and no nodes but theirs
pub record AreDiagramsOf (slots : ℕ) (tables : List (List ℕ)) (arena : ArenaValue) (refs : List Ref) : Type 0 where
  pub same_slots : arena.slots ≡ slots
  pub count : length arena.nodes ≡ node_count slots tables
  pub is : IsArena arena
  pub ones : All (IsRef arena) refs
  pub mean : map (table_of arena) refs ≡ tables
  pub only : HasOnlyNodesOf arena refs
