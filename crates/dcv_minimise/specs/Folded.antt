-- The automaton of the kept states: their rows with new numbers, and their flags.
--     HasRows raw states numbers arena rows      the first of these states have these rows, with new numbers
--     HasKeptRows raw blocks kept arena rows     the kept states have these rows, by the numbers of the kept states
--     flags_of raw kept alone                    the flags of the kept states; a start that stands alone rejects
--     IsFolded raw kept numbers alone new        the raw automaton that starts in state 0 and has these rows and flags
use Rattle.std.specs.Prelude.{◌≡◌, ℕ, ◌<◌, Bool, false, if◌then◌else◌, List, length, map, slice_set, slice_index_or}
use Rattle.std.specs.List.{All}
use Rattle.dcv_arena.specs.Arena.{ArenaValue, IsArena, IsRef, value_of, HasOnlyNodesOf}
use Rattle.dcv_arena.specs.declared.nodes.Ref.{Ref}
use Rattle.dcv_arena.specs.declared.nodes.Ref.TheVariants.{Leaf}
use Rattle.dcv_dfa.specs.Raw.{RawValue, is_accepting, next_in}
use Rattle.dcv_minimise.specs.Classes.{AreNumbers}

pub record HasRows (raw : RawValue) (states numbers : List ℕ) (arena : ArenaValue) (rows : List Ref) : Type 0 where
  pub arena_is : IsArena arena
  pub slots : arena.slots ≡ raw.arena.slots
  pub refs : All (IsRef arena) rows
  pub values : (place : ℕ) (letter : List Bool) → place < length rows → length letter ≡ raw.arena.slots
      → value_of arena (slice_index_or rows place (Leaf 0)) letter ≡ slice_index_or numbers (next_in raw (slice_index_or states place 0) letter) 0
  -- and the arena has the nodes of the rows alone
  pub nodes : HasOnlyNodesOf arena rows

-- the kept states have these rows, by numbers that are theirs
pub record HasKeptRows (raw : RawValue) (blocks kept : List ℕ) (arena : ArenaValue) (rows : List Ref) : Type 0 where
  pub numbers : List ℕ
  pub are : AreNumbers blocks kept numbers
  pub has : HasRows raw kept numbers arena rows
  pub count : length rows ≡ length kept

abbrev pub flags_of : RawValue → List ℕ → Bool → List Bool
flags_of raw kept alone = let flags = map (is_accepting raw) kept in if alone then slice_set flags 0 false else flags

pub record IsFolded (raw : RawValue) (kept numbers : List ℕ) (alone : Bool) (new : RawValue) : Type 0 where
  pub start : new.start ≡ 0
  pub count : length new.rows ≡ length kept
  pub rows : HasRows raw kept numbers new.arena new.rows
  pub flags : new.accepting ≡ flags_of raw kept alone
