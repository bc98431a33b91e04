-- What the environment forces from a ref of an automaton's rows on, slot by slot: at the slots of inputs it picks the side, at the others the
-- controller does.
--     picked n slot lo hi               a side that is forced is picked at the slot
--     is_forced n slot count p          the values of so many slots, from this one on, are forced to have p
--     lost_at lost state                whether the state is lost (a number that is no state is)
--     forced_at lost forced root        whether the state is lost, or what the list has of the place
--     IsForced n arena lost root is     after each front, the ref's number is forced to be that of a lost state
--     AreForcedBefore count n arena lost forced    the list says so of each place before this one
--     AreAllForced n arena lost forced  and of all places
--     AreForcedBut places n arena lost forced      and of all but these
--     HasLost old states new            these states are lost too
--     IsApart arena count states place  no letter leads from the place to one of these states
--     loses m arena lost root input     each output after these inputs has the number of a lost state
use Rattle.std.specs.Prelude.{◌≡◌, ℕ, zero, suc, ◌+◌, ◌<◌, ◌≤◌, nat_lt, nat_eq, Bool, true, false, ◌&&◌, ◌||◌, if◌then◌else◌, List, [], ◌∷◌, ◌++◌, length, slice_index_or, Contains}
use Rattle.std.specs.List.{list_any}
use Rattle.dcv_arena.specs.Arena.{ArenaValue, level_of, value_of}
use Rattle.dcv_arena.specs.declared.nodes.Ref.{Ref}
use Rattle.dcv_arena.specs.declared.nodes.Ref.TheVariants.{Leaf, Place}
use Rattle.dcv_synth.specs.Tracks.{each_track}

abbrev pub picked : ℕ → ℕ → Bool → Bool → Bool
picked n slot lo hi = if nat_lt slot n then lo || hi else lo && hi

abbrev pub is_forced : ℕ → ℕ → ℕ → (List Bool → Bool) → Bool
is_forced n slot zero p = p []
is_forced n slot (suc count) p =
    picked n slot (is_forced n (suc slot) count (λ values. p (false ∷ values))) (is_forced n (suc slot) count (λ values. p (true ∷ values)))

abbrev pub lost_at : List Bool → ℕ → Bool
lost_at lost state = slice_index_or lost state true

abbrev pub forced_at : List Bool → List Bool → Ref → Bool
forced_at lost forced (Leaf state) = lost_at lost state
forced_at lost forced (Place place) = slice_index_or forced place false

abbrev pub IsForced : ℕ → ArenaValue → List Bool → Ref → Bool → Type 0
IsForced n arena lost root is = (front : List Bool) (count : ℕ) → length front + count ≡ arena.slots → length front ≤ level_of arena root
    → is_forced n (length front) count (λ values. lost_at lost (value_of arena root (front ++ values))) ≡ is

abbrev pub AreForcedBefore : ℕ → ℕ → ArenaValue → List Bool → List Bool → Type 0
AreForcedBefore count n arena lost forced = (place : ℕ) → place < count → IsForced n arena lost (Place place) (slice_index_or forced place false)

pub record AreAllForced (n : ℕ) (arena : ArenaValue) (lost forced : List Bool) : Type 0 where
  pub places : length forced ≡ length arena.nodes
  pub each : AreForcedBefore (length arena.nodes) n arena lost forced

pub record AreForcedBut (others : List ℕ) (n : ℕ) (arena : ArenaValue) (lost forced : List Bool) : Type 0 where
  pub places : length forced ≡ length arena.nodes
  pub each : (place : ℕ) → place < length arena.nodes → ¬ Contains others place → IsForced n arena lost (Place place) (slice_index_or forced place false)

pub record HasLost (old : List Bool) (states : List ℕ) (new : List Bool) : Type 0 where
  pub count : length new ≡ length old
  pub each : (state : ℕ) → lost_at new state ≡ (lost_at old state || list_any (nat_eq state) states)

abbrev pub IsApart : ArenaValue → ℕ → List ℕ → ℕ → Type 0
IsApart arena count states place =
    (letter : List Bool) → value_of arena (Place place) letter < count → ¬ Contains states (value_of arena (Place place) letter)

abbrev pub loses : ℕ → ArenaValue → List Bool → Ref → List Bool → Bool
loses m arena lost root input = each_track m (λ output. lost_at lost (value_of arena root (input ++ output)))
