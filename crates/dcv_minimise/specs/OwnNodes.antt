-- Whose nodes an arena has, and what is known of the nodes that are marked.
--     IsOfRoots arena roots ref        each node of the ref's function is one of these roots' functions
--     AreMarked arena roots marked     that is so of each node with a mark
use Rattle.std.specs.Prelude.{◌≡◌, ℕ, Bool, true, false, List, map, slice_index_or, Contains}
use Rattle.dcv_arena.specs.Arena.{ArenaValue, table_of}
use Rattle.dcv_arena.specs.Diagram.{nodes_of, nodes_of_all}
use Rattle.dcv_arena.specs.declared.nodes.Ref.{Ref}
use Rattle.dcv_arena.specs.declared.nodes.Ref.TheVariants.{Place}

abbrev pub IsOfRoots : ArenaValue → List Ref → Ref → Type 0
IsOfRoots arena roots ref = (node : ℕ × List ℕ) → Contains (nodes_of arena.slots (table_of arena ref)) node
    → Contains (nodes_of_all arena.slots (map (table_of arena) roots)) node

abbrev pub AreMarked : ArenaValue → List Ref → List Bool → Type 0
AreMarked arena roots marked = (place : ℕ) → slice_index_or marked place false ≡ true → IsOfRoots arena roots (Place place)
