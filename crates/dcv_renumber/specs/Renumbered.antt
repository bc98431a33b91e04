-- New numbers for old ones, from a list that has at each place the new number of that place.
--     RemappingValue              whose functions get new numbers, which ones, and what places became so far
--     renumbered new from root    the function that has the new number of the ref's number, at each letter
--     HoldsNew remapping arena    what each place became has the new numbers, in this arena
--     IsNewRef new from arena root result    a ref with the new numbers, which depends on no slot before the old one does
--     AddsOnlyOfNew new from root old now    all nodes that came are of each function that may come of the ref
--     HasMoreNew new from root old limit     each function that may come of the ref has more new nodes than this
use Rattle.std.specs.Prelude.{◌≡◌, ℕ, ◌≤◌, ◌<◌, length, Bool, List, Option, slice_index_or}
use Rattle.dcv_arena.specs.Arena.{ArenaValue, IsRef, level_of, value_of, AddsOnlyNodesOfFunction, count_with}
use Rattle.dcv_arena.specs.Pointwise.{AgreesBehind, exactly}
use Rattle.dcv_arena.specs.declared.nodes.Ref.{Ref}
use Rattle.dcv_arena.specs.declared.nodes.Ref.TheVariants.{Place}
use Rattle.dcv_renumber.specs.Became.{HasBecome}

pub record RemappingValue : Type 0 where
  pub from : ArenaValue
  pub numbers : List ℕ
  pub places : List (Option Ref)

abbrev pub renumbered : List ℕ → ArenaValue → Ref → List Bool → ℕ
renumbered new from root letter = slice_index_or new (value_of from root letter) 0

pub record IsNewRef (new : List ℕ) (from arena : ArenaValue) (root result : Ref) : Type 0 where
  pub is_ref : IsRef arena result
  pub level : (slot : ℕ) → slot ≤ level_of from root → slot ≤ arena.slots → slot ≤ level_of arena result
  pub value : (letter : List Bool) → length letter ≡ arena.slots → value_of arena result letter ≡ renumbered new from root letter

-- a function may come of the ref, below others, if it has the new numbers at all letters that begin with the front
abbrev pub AddsOnlyOfNew : List ℕ → ArenaValue → Ref → ArenaValue → ArenaValue → Type 0
AddsOnlyOfNew new from root old now = (front : List Bool) (function : List Bool → ℕ) → length front ≤ level_of from root → length front ≤ old.slots
    → AgreesBehind exactly (renumbered new from root) old.slots front function → AddsOnlyNodesOfFunction old now function

abbrev pub HasMoreNew : List ℕ → ArenaValue → Ref → ArenaValue → ℕ → Type 0
HasMoreNew new from root old limit = (front : List Bool) (function : List Bool → ℕ) → length front ≤ level_of from root → length front ≤ old.slots
    → AgreesBehind exactly (renumbered new from root) old.slots front function → limit < count_with old function

-- each place became such a ref, if it became anything
abbrev pub HoldsPlaces : List ℕ → ArenaValue → ArenaValue → List (Option Ref) → Type 0
HoldsPlaces new from arena became = (place : ℕ) (result : Ref) → HasBecome became place result → IsNewRef new from arena (Place place) result

abbrev pub HoldsNew : RemappingValue → ArenaValue → Type 0
HoldsNew remapping arena = HoldsPlaces remapping.numbers remapping.from arena remapping.places
