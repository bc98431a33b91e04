-- For the proofs: refs of an arena that mean what the nodes of a file say.
--     ref_at refs child                   the ref of a child, given those of the nodes
--     slot_at nodes place                 the slot of a node
--     IsLater nodes slot child            a child that is a node has a later slot
--     AreNodes width nodes                children stand before their nodes, and have later slots
--     AreRefsOf nodes count arena refs    the refs of the first so many nodes
--     StandFor width nodes arena refs     so it is with all nodes
use Rattle.std.specs.Prelude.{◌≡◌, ℕ, ◌<◌, ◌≤◌, Bool, List, length, slice_index_or}
use Rattle.dcv_arena.specs.Arena.{ArenaValue, IsArena, IsRef, level_of, value_of}
use Rattle.dcv_arena.specs.declared.nodes.Ref.{Ref}
use Rattle.dcv_arena.specs.declared.nodes.Ref.TheVariants.{Leaf}
use Rattle.dcv_automaton_text.specs.Meaning.{state_at}
use Rattle.dcv_automaton_read.specs.Walk.{AreOrdered, leaves_of}
use Rattle.dcv_language.specs.declared.child.Child.{Child}
use Rattle.dcv_language.specs.declared.child.Child.TheVariants.{State, Node as AtNode}
use Rattle.dcv_automaton_read.specs.declared.nodes.Node.{Node}

abbrev pub ref_at : List Ref → Child → Ref
ref_at refs (State number) = Leaf number
ref_at refs (AtNode number) = slice_index_or refs number (Leaf 0)

abbrev pub some_node : Node
some_node = record { slot = 0; hi = State 0; lo = State 0 }

abbrev pub slot_at : List Node → ℕ → ℕ
slot_at nodes place = (slice_index_or nodes place some_node).slot

abbrev pub IsLater : List Node → ℕ → Child → Type 0
IsLater nodes slot (State number) = Unit {0}
IsLater nodes slot (AtNode number) = slot < slot_at nodes number

pub record AreNodes (width : ℕ) (nodes : List Node) : Type 0 where
  pub narrow : width ≤ 32
  pub ordered : AreOrdered width nodes
  pub his : (place : ℕ) (d : Node) → place < length nodes → IsLater nodes (slice_index_or nodes place d).slot (slice_index_or nodes place d).hi
  pub los : (place : ℕ) (d : Node) → place < length nodes → IsLater nodes (slice_index_or nodes place d).slot (slice_index_or nodes place d).lo

pub record AreRefsOf (width : ℕ) (nodes : List Node) (count : ℕ) (arena : ArenaValue) (refs : List Ref) : Type 0 where
  pub is_arena : IsArena arena
  pub slots : arena.slots ≡ width
  pub size : length refs ≡ count
  pub refs_are : (place : ℕ) → place < count → IsRef arena (slice_index_or refs place (Leaf 0))
  pub levels : (place : ℕ) → place < count → slot_at nodes place ≤ level_of arena (slice_index_or refs place (Leaf 0))
  pub values : (place : ℕ) (letter : List Bool) → place < count
      → value_of arena (slice_index_or refs place (Leaf 0)) letter ≡ state_at (leaves_of letter nodes) (AtNode place)

abbrev pub StandFor : ℕ → List Node → ArenaValue → List Ref → Type 0
StandFor width nodes arena refs = AreRefsOf width nodes (length nodes) arena refs
