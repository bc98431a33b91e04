-- The form in which a shelf keeps tables: for each state a flag and a row in the shelf's arena.
--     row_at stored state               the row of a state
--     stored_table arena stored         what it stands for
--     IsStored arena stored             what is true of each one
--     shelf_value, IsShelf              a shelf by its parts, and what is true of each one
--     copied_states auto copies count   the first states of an automaton, with the copies of their rows
--     IsTurned old new                  what is kept of a complement
--     HasRows from stored arena rows    these rows of another arena are those of its states
--     ViewValue, IsView                 a stored table beside the arena of its rows
--     view_table                        what it stands for
use Rattle.std.specs.Prelude.{◌≡◌, ℕ, ◌^◌, ◌-◌, ◌<◌, ◌≤◌, Bool, not, false, if◌then◌else◌, List, [], ◌∷◌, length, map, slice_index_or}
use Rattle.std.specs.List.{All, range_with_len}
use Rattle.dcv_arena.specs.Arena.{ArenaValue, IsArena, IsRef, value_of, HasOnlyNodesOf}
use Rattle.dcv_arena.specs.Diagram.{as_table}
use Rattle.dcv_arena.specs.declared.nodes.Ref.{Ref}
use Rattle.dcv_arena.specs.declared.nodes.Ref.TheVariants.{Leaf}
use Rattle.dcv_language.specs.Table.{TableState}
use Rattle.dcv_dfa.specs.Raw.{RawValue, row_of, is_accepting}
use Rattle.dcv_shelf.specs.Copies.{DependsOnFirst, copied_ref}
use Rattle.dcv_shelf.specs.Shelf.{ShelfTable, ShelfValue, nodes_of_table, IsCanonicalTable, HaveOneNumberEach}
use Rattle.dcv_shelf.specs.declared.stored.State.{State}
use Rattle.dcv_shelf.specs.declared.stored.Stored.{Stored}

-- the row of a state, and of one that is none the leaf 0
abbrev pub row_at : Stored → ℕ → Ref
row_at stored state = (slice_index_or stored.states.items state (record { accepting = false; row = Leaf 0 })).row

-- a row is read at letters of the table's own slots
abbrev pub stored_state : ArenaValue → ℕ → State → TableState
stored_state arena slots state = record { accepting = state.accepting; row = as_table slots (value_of arena state.row) }

abbrev pub stored_table : ArenaValue → Stored → ShelfTable
stored_table arena stored = record { slots = stored.slots; table = map (stored_state arena stored.slots) stored.states.items }

pub record IsStored (arena : ArenaValue) (stored : Stored) : Type 0 where
  pub slots : stored.slots ≤ arena.slots
  pub refs : All (λ (state : State). IsRef arena state.row) stored.states.items
  pub first : All (λ (state : State). DependsOnFirst arena stored.slots state.row) stored.states.items
  pub canonical : IsCanonicalTable (stored_table arena stored) stored.alone
  pub nodes : stored.nodes ≡ nodes_of_table (stored_table arena stored)
  pub states : length stored.states.items < 2 ^ 32

-- ---- a shelf

abbrev pub shelf_value : ArenaValue → List Stored → ShelfValue
shelf_value arena keys = record { slots = arena.slots; room = arena.limit - length arena.nodes; tables = map (stored_table arena) keys }

pub record IsShelf (arena : ArenaValue) (keys : List Stored) : Type 0 where
  pub limit : arena.limit ≡ 1_073_741_824
  pub each : All (IsStored arena) keys
  pub once : HaveOneNumberEach (map (stored_table arena) keys)

-- ---- tables that are put there

abbrev pub copied_state : RawValue → List Ref → ℕ → State
copied_state auto copies number = record { accepting = is_accepting auto number; row = copied_ref copies (row_of auto number) }

abbrev pub copied_states : RawValue → List Ref → ℕ → List State
copied_states auto copies count = map (copied_state auto copies) (range_with_len 0 count)

abbrev pub flipped_state : State → State
flipped_state state = record { accepting = not state.accepting; row = state.row }

abbrev pub turned_states : Bool → List State → List State
turned_states alone [] = []
turned_states alone (start ∷ others) = (if alone then start else flipped_state start) ∷ map flipped_state others

-- the rows are the same, so no node comes
pub record IsTurned (old new : Stored) : Type 0 where
  pub slots : new.slots ≡ old.slots
  pub alone : new.alone ≡ old.alone
  pub nodes : new.nodes ≡ old.nodes
  pub states : new.states.items ≡ turned_states old.alone old.states.items

-- ---- tables that leave

-- the first states have these rows, which mean there at the table's letters what they mean here
pub record HasRows (from : ArenaValue) (stored : Stored) (arena : ArenaValue) (rows : List Ref) : Type 0 where
  pub arena_is : IsArena arena
  pub slots : arena.slots ≡ stored.slots
  pub refs : All (IsRef arena) rows
  pub values : (place : ℕ) (letter : List Bool) → place < length rows → length letter ≡ stored.slots
      → value_of arena (slice_index_or rows place (Leaf 0)) letter ≡ value_of from (row_at stored place) letter
  -- and the arena has the nodes of the rows alone
  pub nodes : HasOnlyNodesOf arena rows

-- ---- views

pub record ViewValue : Type 0 where
  pub arena : ArenaValue
  pub stored : Stored

pub record IsView (view : ViewValue) : Type 0 where
  pub arena : IsArena view.arena
  pub stored : IsStored view.arena view.stored

abbrev pub view_table : ViewValue → ShelfTable
view_table view = stored_table view.arena view.stored
