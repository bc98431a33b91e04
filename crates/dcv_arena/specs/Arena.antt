-- What contracts see of an arena, and the functions that its refs mean.
--     IsRef arena ref               a leaf, or the place of a node
--     level_of arena ref            the slot of the ref's node, and for a leaf the number of slots
--     value_of arena ref letter     the number that the ref's function has at a letter
--     table_of arena ref            its numbers at all the letters, in order
--     node_at arena place           a node as the diagram of its function has it: its slot, and a block of the table there, which are all alike
--     diagram_nodes arena           all the arena's nodes as such
--     places arena                  the refs of all the nodes
--     IsArena arena                 what is true of every arena
--     IsNew arena slot lo hi        this node has two different children, and the arena does not have it
--     KeepsRefs old new             the refs of the old arena are refs of the new one, and mean what they meant
--     HasOnlyNodesOf arena roots    each node of the arena is a node of one of these refs' functions
--     AddsOnlyNodesOf old new root  each node of the new arena is one of the old arena, or a node of this ref's function
--     AddsOnlyNodesOfFunction old new function    each node of the new arena is one of the old arena, or a node of this function
--     count_with arena function     how many nodes the arena and this function have together
--     IncludesNodesOf old part new root    each node of what a ref means in the old arena is a node of what a ref means in the new one
use Rattle.std.specs.Prelude.{◌≡◌, ◌≢◌, ℕ, ◌^◌, ◌<◌, ◌≤◌, Bool, false, if◌then◌else◌, List, [], ◌∷◌, ◌++◌, length, map, take, fold, Some, slice_get, slice_index_or, Contains, ◌⊎◌}
use Rattle.std.specs.Option.{option_map_or}
use Rattle.std.specs.List.{range_with_len}
use Rattle.dcv_arena.specs.declared.nodes.Ref.{Ref}
use Rattle.dcv_arena.specs.declared.nodes.Ref.TheVariants.{Leaf, Place}
use Rattle.dcv_arena.specs.declared.nodes.Node.{Node}
use Rattle.dcv_arena.specs.Diagram.{as_table, block, nodes_of, nodes_of_all, node_count}

-- the nodes stand in the order in which they were added
pub record ArenaValue : Type 0 where
  pub slots : ℕ
  pub limit : ℕ
  pub nodes : List Node

-- the ref is a leaf, or the place of one of the first count nodes
abbrev pub IsBefore : ℕ → Ref → Type 0
IsBefore count (Leaf number) = Unit {0}
IsBefore count (Place place) = place < count

abbrev pub IsRef : ArenaValue → Ref → Type 0
IsRef arena ref = IsBefore (length arena.nodes) ref

abbrev pub level_of : ArenaValue → Ref → ℕ
level_of arena (Leaf number) = arena.slots
level_of arena (Place place) = option_map_or (λ node. node.slot) (slice_get arena.nodes place) arena.slots

-- a ref's function, given those of the nodes
abbrev pub function_at : List (List Bool → ℕ) → Ref → List Bool → ℕ
function_at functions (Leaf number) letter = number
function_at functions (Place place) letter = slice_index_or functions place (λ letter. 0) letter

-- a node's function is that of the child on the side of the letter's value in the node's slot
abbrev pub function_of : List (List Bool → ℕ) → Node → List Bool → ℕ
function_of functions node letter =
    if slice_index_or letter node.slot false then function_at functions node.hi letter else function_at functions node.lo letter

-- the functions of the nodes, in order; a node's children stand before it
unfoldable pub functions_of : List Node → List (List Bool → ℕ)
functions_of nodes = fold (λ functions node. functions ++ function_of functions node ∷ []) [] nodes

abbrev pub value_of : ArenaValue → Ref → List Bool → ℕ
value_of arena ref letter = function_at (functions_of arena.nodes) ref letter

unfoldable pub table_of : ArenaValue → Ref → List ℕ
table_of arena ref = as_table arena.slots (value_of arena ref)

abbrev pub node_at : ArenaValue → ℕ → ℕ × List ℕ
node_at arena place = let level = level_of arena (Place place) in (level, block arena.slots (table_of arena (Place place)) level 0)

unfoldable pub diagram_nodes : ArenaValue → List (ℕ × List ℕ)
diagram_nodes arena = map (node_at arena) (range_with_len 0 (length arena.nodes))

-- the refs of all the nodes
abbrev pub places : ArenaValue → List Ref
places arena = map Place (range_with_len 0 (length arena.nodes))

-- ---- what is true of every arena

-- the children stand before the node and at later slots, and differ
pub record IsNodeAt (arena : ArenaValue) (place : ℕ) (node : Node) : Type 0 where
  pub slot : node.slot < arena.slots
  pub lo_before : IsBefore place node.lo
  pub hi_before : IsBefore place node.hi
  pub lo_level : node.slot < level_of arena node.lo
  pub hi_level : node.slot < level_of arena node.hi
  pub differ : node.lo ≢ node.hi

-- children come before their nodes, and no two nodes are the same
pub record IsReduced (arena : ArenaValue) : Type 0 where
  pub nodes : (place : ℕ) (node : Node) → slice_get arena.nodes place ≡ Some node → IsNodeAt arena place node
  pub once : (first second : ℕ) (node : Node) → slice_get arena.nodes first ≡ Some node → slice_get arena.nodes second ≡ Some node → first ≡ second

pub record IsArena (arena : ArenaValue) : Type 0 where
  pub slots : arena.slots ≤ 32
  pub limit : arena.limit < 2 ^ 32
  pub within : length arena.nodes ≤ arena.limit
  pub reduced : IsReduced arena

-- ---- a call that may add a node

abbrev pub node_of : ℕ → Ref → Ref → Node
node_of slot lo hi = record { slot = slot; lo = lo; hi = hi }

abbrev pub IsNew : ArenaValue → ℕ → Ref → Ref → Type 0
IsNew arena slot lo hi = (lo ≢ hi) × ((place : ℕ) → slice_get arena.nodes place ≢ Some (node_of slot lo hi))

-- the old nodes stand where they stood, and the refs of the old arena are refs of the new one and mean what they meant
pub record KeepsRefs (old new : ArenaValue) : Type 0 where
  pub slots : new.slots ≡ old.slots
  pub limit : new.limit ≡ old.limit
  pub nodes : take (length old.nodes) new.nodes ≡ old.nodes
  pub refs : (ref : Ref) → IsRef old ref → IsRef new ref
  pub levels : (ref : Ref) → IsRef old ref → level_of new ref ≡ level_of old ref
  pub values : (ref : Ref) (letter : List Bool) → IsRef old ref → value_of new ref letter ≡ value_of old ref letter
  pub tables : (ref : Ref) → IsRef old ref → table_of new ref ≡ table_of old ref

-- ---- whose nodes an arena has

-- each node of the arena is a node of one of these refs' functions
abbrev pub HasOnlyNodesOf : ArenaValue → List Ref → Type 0
HasOnlyNodesOf arena roots = (node : ℕ × List ℕ) → Contains (diagram_nodes arena) node
    → Contains (nodes_of_all arena.slots (map (table_of arena) roots)) node

-- each node of the new arena is one of the old arena, or a node of this ref's function
abbrev pub AddsOnlyNodesOf : ArenaValue → ArenaValue → Ref → Type 0
AddsOnlyNodesOf old new root = (node : ℕ × List ℕ) → Contains (diagram_nodes new) node
    → Contains (diagram_nodes old) node ⊎ Contains (nodes_of new.slots (table_of new root)) node

-- each node of what the part means in the old arena is a node of what the root means in the new one
abbrev pub IncludesNodesOf : ArenaValue → Ref → ArenaValue → Ref → Type 0
IncludesNodesOf old part new root = (node : ℕ × List ℕ) → Contains (nodes_of old.slots (table_of old part)) node
    → Contains (nodes_of new.slots (table_of new root)) node

-- each node of the new arena is one of the old arena, or a node of this function, which no ref may mean yet
abbrev pub AddsOnlyNodesOfFunction : ArenaValue → ArenaValue → (List Bool → ℕ) → Type 0
AddsOnlyNodesOfFunction old new function = (node : ℕ × List ℕ) → Contains (diagram_nodes new) node
    → Contains (diagram_nodes old) node ⊎ Contains (nodes_of new.slots (as_table new.slots function)) node

-- how many nodes the arena's refs and this function have together, each counted once
abbrev pub count_with : ArenaValue → (List Bool → ℕ) → ℕ
count_with arena function = node_count arena.slots (map (table_of arena) (places arena) ++ as_table arena.slots function ∷ [])
