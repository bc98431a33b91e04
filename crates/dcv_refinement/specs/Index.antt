-- What stands directly above each leaf and node of some rows, so that all rows are found that lead to one of some leaves.
--     IsWithin arena count ref             a leaf below the count, or a place of the arena
--     IsAbove arena count nodes place      the node goes by its slot to two refs, and is listed at both
--     GoesDown arena place ref             where its slot has one of the values, the node goes to the ref
--     IsIndex arena refs nodes rows        each node is listed at what it goes to, each row at what it is, and nothing else is listed
--     IsMet index leaves ref               one of the leaves, or a node that leads to one
--     IsFollowed nodes rows ref marked looked    the nodes and the rows directly above the ref are among these
--     IsMarked index leaves marked looked  the marked nodes and the looked-at rows lead to the leaves, and each node is marked once
--     Grows                                what was marked and looked at is
--     IsClosed nodes rows leaves marked looked    all that stands directly above the leaves and the marked places is among these
use Rattle.std.specs.Prelude.{◌≡◌, ℕ, ◌<◌, Bool, false, eqb, if◌then◌else◌, List, length, Some, slice_get, slice_index_or, Contains}
use Rattle.std.specs.List.{All, IsDistinct}
use Rattle.dcv_arena.specs.Arena.{ArenaValue, IsArena, IsRef, level_of, value_of}
use Rattle.dcv_arena.specs.declared.nodes.Ref.{Ref}
use Rattle.dcv_arena.specs.declared.nodes.Ref.TheVariants.{Leaf, Place}
use Rattle.dcv_refinement.specs.Lists.{AreLinked, listed_at}
use Rattle.dcv_refinement.specs.Leads.{row_at, IndexedRows, LeadsInto, IsRowInto}
use Rattle.dcv_refinement.specs.declared.lists.Lists.{Lists}

abbrev pub IsWithin : ArenaValue → ℕ → Ref → Type 0
IsWithin arena count (Leaf leaf) = leaf < count
IsWithin arena count (Place place) = place < length arena.nodes

pub record IsAbove (arena : ArenaValue) (count : ℕ) (nodes : Lists) (place : ℕ) : Type 0 where
  pub slot : ℕ
  pub lo : Ref
  pub hi : Ref
  pub lo_is_ref : IsRef arena lo
  pub hi_is_ref : IsRef arena hi
  pub inner : level_of arena (Place place) < arena.slots
  pub lo_level : level_of arena (Place place) < level_of arena lo
  pub hi_level : level_of arena (Place place) < level_of arena hi
  pub value : (letter : List Bool) → value_of arena (Place place) letter
      ≡ (if slice_index_or letter slot false then value_of arena hi letter else value_of arena lo letter)
  pub at_lo : IsWithin arena count lo → Contains (listed_at nodes lo) place
  pub at_hi : IsWithin arena count hi → Contains (listed_at nodes hi) place

pub record GoesDown (arena : ArenaValue) (place : ℕ) (ref : Ref) : Type 0 where
  pub slot : ℕ
  pub side : Bool
  pub within : place < length arena.nodes
  pub inner : slot < arena.slots
  pub later : slot < level_of arena ref
  pub is_ref : IsRef arena ref
  pub value : (letter : List Bool) → slice_index_or letter slot false ≡ side → value_of arena (Place place) letter ≡ value_of arena ref letter

pub record AreNodesAbove (arena : ArenaValue) (count : ℕ) (nodes : Lists) : Type 0 where
  pub arena_is : IsArena arena
  pub linked : AreLinked nodes
  pub leaves : length nodes.leaves.items ≡ count
  pub places : length nodes.places.items ≡ length arena.nodes
  pub above : (place : ℕ) → place < length arena.nodes → IsAbove arena count nodes place
  pub only : (at : Ref) (place : ℕ) → Contains (listed_at nodes at) place → GoesDown arena place at

pub record IsListedRow (refs : List Ref) (at : Ref) (row : ℕ) : Type 0 where
  pub below : row < length refs
  pub is : row_at refs row ≡ at

pub record AreRowsAbove (arena : ArenaValue) (refs : List Ref) (rows : Lists) : Type 0 where
  pub linked : AreLinked rows
  pub leaves : length rows.leaves.items ≡ length refs
  pub above : (row : ℕ) → row < length refs → IsWithin arena (length refs) (row_at refs row) → Contains (listed_at rows (row_at refs row)) row
  pub only : (at : Ref) (row : ℕ) → Contains (listed_at rows at) row → IsListedRow refs at row

pub record IsIndex (arena : ArenaValue) (refs : List Ref) (nodes rows : Lists) : Type 0 where
  pub of_nodes : AreNodesAbove arena (length refs) nodes
  pub of_rows : AreRowsAbove arena refs rows

-- ---- the way up

abbrev pub IsMet : IndexedRows → List ℕ → Ref → Type 0
IsMet index leaves (Leaf leaf) = Contains leaves leaf
IsMet index leaves (Place place) = LeadsInto index leaves (Place place)

pub record IsFollowed (nodes rows : Lists) (ref : Ref) (marked looked : List ℕ) : Type 0 where
  pub each_node : (place : ℕ) → Contains (listed_at nodes ref) place → Contains marked place
  pub each_row : (row : ℕ) → Contains (listed_at rows ref) row → Contains looked row

pub record IsMarked (index : IndexedRows) (leaves marked looked : List ℕ) : Type 0 where
  pub nodes : All (λ place. LeadsInto index leaves (Place place)) marked
  pub once : IsDistinct eqb marked
  pub rows : All (IsRowInto index leaves) looked

-- the marked places stay where they are
pub record Grows (old_marked old_looked marked looked : List ℕ) : Type 0 where
  pub stay : (at place : ℕ) → slice_get old_marked at ≡ Some place → slice_get marked at ≡ Some place
  pub kept : (row : ℕ) → Contains old_looked row → Contains looked row

pub record IsClosed (nodes rows : Lists) (leaves marked looked : List ℕ) : Type 0 where
  pub at_leaves : (leaf : ℕ) → Contains leaves leaf → IsFollowed nodes rows (Leaf leaf) marked looked
  pub places : (place : ℕ) → Contains marked place → IsFollowed nodes rows (Place place) marked looked
