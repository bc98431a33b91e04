-- Which rows and nodes lead to some leaves.
--     row_at refs row                  a row, and the leaf 0 where there is none
--     IndexedRows                      what an `Index` is seen as: an arena and rows in it
--     LeadsInto index leaves ref       at some letter of the arena's slots the ref has the number of one of these leaves, which is the number of a row
--     IsRowInto index leaves row       there is such a row, and it does
use Rattle.std.specs.Prelude.{◌≡◌, ℕ, ◌<◌, Bool, List, length, slice_index_or, Contains}
use Rattle.dcv_arena.specs.Arena.{ArenaValue, IsRef, value_of}
use Rattle.dcv_arena.specs.declared.nodes.Ref.{Ref}
use Rattle.dcv_arena.specs.declared.nodes.Ref.TheVariants.{Leaf}

abbrev pub row_at : List Ref → ℕ → Ref
row_at refs row = slice_index_or refs row (Leaf 0)

pub record IndexedRows : Type 0 where
  pub arena : ArenaValue
  pub rows : List Ref

abbrev pub index_of : ArenaValue → List Ref → IndexedRows
index_of arena rows = record { arena = arena; rows = rows }

pub record LeadsInto (index : IndexedRows) (leaves : List ℕ) (ref : Ref) : Type 0 where
  pub is_ref : IsRef index.arena ref
  pub letter : List Bool
  pub width : length letter ≡ index.arena.slots
  pub below : value_of index.arena ref letter < length index.rows
  pub leaf : Contains leaves (value_of index.arena ref letter)

pub record IsRowInto (index : IndexedRows) (leaves : List ℕ) (row : ℕ) : Type 0 where
  pub below : row < length index.rows
  pub leads : LeadsInto index leaves (row_at index.rows row)
