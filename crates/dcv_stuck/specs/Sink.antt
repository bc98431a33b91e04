-- For the proofs alone: the automaton of the stuck words of what an automaton accepts. It has one state more, the sink, which no letter leaves, and where the
-- first goes to a state that rejects it goes to the sink. So it stays out of the sink exactly at the words that keep to the set.
--     number_of automaton sink state          the number of a state: its own where it accepts, and else the sink's
--     HasStuckWords k sink automaton stuck    the states of the automaton are the numbers below the sink's, and they accept, in that of the stuck words,
--                                             where each letter leads to the sink
--     number_in raw state                     the number of a state of a raw automaton
--     numbers_of raw count                    those of the first states
--     HasRows raw arena rows                  the first states have these rows, by their numbers
--     LeadTo sink rows flags                  each flag says whether the row at its place is the sink's
--     IsOfStuckWords raw stuck                the raw automaton of the stuck words
use Rattle.std.specs.Prelude.{◌≡◌, ◌↔◌, ℕ, ◌<◌, Bool, true, false, if◌then◌else◌, List, length, map, slice_index_or}
use Rattle.std.specs.List.{All, range_with_len}
use Rattle.dcv_arena.specs.Arena.{ArenaValue, IsArena, IsRef, value_of}
use Rattle.dcv_arena.specs.declared.nodes.Ref.{Ref}
use Rattle.dcv_arena.specs.declared.nodes.Ref.TheVariants.{Leaf}
use Rattle.dcv_language.specs.Automaton.{Automaton}
use Rattle.dcv_dfa.specs.Raw.{RawValue, automaton_of, next_in}
use Rattle.dcv_dfa.specs.Table.{HasStates}

abbrev pub number_of : Automaton ℕ → ℕ → ℕ → ℕ
number_of automaton sink state = if automaton.accepting state then state else sink

pub record HasStuckWords (k sink : ℕ) (automaton stuck : Automaton ℕ) : Type 0 where
  pub states : HasStates automaton k sink
  pub start : stuck.start ≡ automaton.start
  pub steps : (state : ℕ) (letter : List Bool) → state < sink → length letter ≡ k
      → stuck.next state letter ≡ number_of automaton sink (automaton.next state letter)
  pub stays : (letter : List Bool) → length letter ≡ k → stuck.next sink letter ≡ sink
  pub flags : (state : ℕ) → state < sink
      → (stuck.accepting state ≡ true) ↔ ((letter : List Bool) → length letter ≡ k → stuck.next state letter ≡ sink)
  pub rejects : stuck.accepting sink ≡ false

-- ---- raw automata

abbrev pub number_in : RawValue → ℕ → ℕ
number_in raw = number_of (automaton_of raw) (length raw.rows)

abbrev pub numbers_of : RawValue → ℕ → List ℕ
numbers_of raw count = map (number_in raw) (range_with_len 0 count)

pub record HasRows (raw : RawValue) (arena : ArenaValue) (rows : List Ref) : Type 0 where
  pub arena_is : IsArena arena
  pub slots : arena.slots ≡ raw.arena.slots
  pub refs : All (IsRef arena) rows
  pub values : (state : ℕ) (letter : List Bool) → state < length rows → length letter ≡ raw.arena.slots
      → value_of arena (slice_index_or rows state (Leaf 0)) letter ≡ number_in raw (next_in raw state letter)

abbrev pub LeadTo : Ref → List Ref → List Bool → Type 0
LeadTo sink rows flags = (place : ℕ) → place < length flags
    → (slice_index_or flags place false ≡ true) ↔ (slice_index_or rows place (Leaf 0) ≡ sink)

pub record IsOfStuckWords (raw stuck : RawValue) : Type 0 where
  pub slots : stuck.arena.slots ≡ raw.arena.slots
  pub has : HasStuckWords raw.arena.slots (length raw.rows) (automaton_of raw) (automaton_of stuck)
