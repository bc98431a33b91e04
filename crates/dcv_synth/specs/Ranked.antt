-- The ranks of an automaton's states, as lists that have an entry for each state.
--     IsRanked n m automaton state entry             the state's rank with its move, or none where it is never beaten
--     AreRanked n m automaton states ranks           so of each state
--     win_by automaton ranks state                   the state accepts, and has no rank
--     IsRankedWithin, AreRankedWithin                the same where ranks go up to a bound only
--     lost_within n m automaton states bound         for each state whether it rejects, or is beaten within so many letters
--     HasForced raw bound forcing                    what is forced on the states that are lost within the bound
--     IsNew n m automaton bound state                it accepts, and is beaten within one letter more than the bound, and no fewer
--     AreNew n m automaton bound beaten              these are all such states
--     IsStanding raw bound forcing ranks beaten      what is known within one letter more than a bound
--     AreUnranked .. bound looked                    one letter more than the bound beats none but these
--     IsDecided .. bound state entry                 for proofs alone: the entry of a state, before or after it is looked at
--     IsJustNew .. bound state entry                 for proofs alone: the state is new, and has no entry yet
use Rattle.std.specs.Prelude.{◌≡◌, ◌↔◌, ◌⊎◌, ℕ, suc, ◌-◌, ◌<◌, ◌≤◌, Bool, ◌&&◌, List, length, map, Option, Some, None, is_none, slice_index_or, IsTrue, IsFalse, Contains}
use Rattle.std.specs.List.{range_with_len}
use Rattle.dcv_language.specs.Automaton.{Automaton}
use Rattle.dcv_dfa.specs.Raw.{RawValue, IsRaw, automaton_of}
use Rattle.dcv_synth.specs.Forced.{AreAllForced}
use Rattle.dcv_synth.specs.Winning.{is_lost, is_beaten, IsRank, move_of}
use Rattle.dcv_synth.specs.declared.forcing.Forcing.{Forcing}
use Rattle.dcv_synth.specs.declared.ranks.Ranked.{Ranked}

abbrev pub rank_at : List (Option Ranked) → ℕ → Option Ranked
rank_at ranks state = slice_index_or ranks state None

abbrev pub IsRanked : ℕ → ℕ → Automaton ℕ → ℕ → Option Ranked → Type 0
IsRanked n m automaton state None = (bound : ℕ) → IsFalse (is_beaten n m automaton bound state)
IsRanked n m automaton state (Some ranked) = IsRank n m automaton state ranked.rank × (ranked.input ≡ move_of n m automaton ranked.rank state)

pub record AreRanked (n m : ℕ) (automaton : Automaton ℕ) (states : ℕ) (ranks : List (Option Ranked)) : Type 0 where
  pub count : length ranks ≡ states
  pub each : (state : ℕ) → state < states → IsRanked n m automaton state (rank_at ranks state)

abbrev pub win_by : Automaton ℕ → List (Option Ranked) → ℕ → Bool
win_by automaton ranks state = automaton.accepting state && is_none (rank_at ranks state)

-- ---- within a bound

abbrev pub IsRankedWithin : ℕ → ℕ → Automaton ℕ → ℕ → ℕ → Option Ranked → Type 0
IsRankedWithin n m automaton bound state None = IsFalse (is_beaten n m automaton bound state)
IsRankedWithin n m automaton bound state (Some ranked) = IsTrue (is_beaten n m automaton bound state) × IsRanked n m automaton state (Some ranked)

pub record AreRankedWithin (n m : ℕ) (automaton : Automaton ℕ) (states bound : ℕ) (ranks : List (Option Ranked)) : Type 0 where
  pub count : length ranks ≡ states
  pub each : (state : ℕ) → state < states → IsRankedWithin n m automaton bound state (rank_at ranks state)

abbrev pub lost_within : ℕ → ℕ → Automaton ℕ → ℕ → ℕ → List Bool
lost_within n m automaton states bound = map (is_lost automaton (is_beaten n m automaton bound)) (range_with_len 0 states)

pub record HasForced (raw : RawValue) (bound : ℕ) (forcing : Forcing) : Type 0 where
  pub raw_is : IsRaw raw
  pub inputs : forcing.inputs ≤ raw.arena.slots
  pub arena : forcing.arena.now ≡ raw.arena
  pub lost : forcing.lost.items ≡ lost_within forcing.inputs (raw.arena.slots - forcing.inputs) (automaton_of raw) (length raw.rows) bound
  pub each : AreAllForced forcing.inputs raw.arena forcing.lost.items forcing.forced.items

-- ---- one letter more

pub record IsNew (n m : ℕ) (automaton : Automaton ℕ) (bound state : ℕ) : Type 0 where
  pub accepts : IsTrue (automaton.accepting state)
  pub beaten : IsTrue (is_beaten n m automaton (suc bound) state)
  pub not_before : IsFalse (is_beaten n m automaton bound state)

abbrev pub AreNew : ℕ → ℕ → Automaton ℕ → ℕ → List ℕ → Type 0
AreNew n m automaton bound beaten = (state : ℕ) → Contains beaten state ↔ IsNew n m automaton bound state

pub record IsStanding (raw : RawValue) (bound : ℕ) (forcing : Forcing) (ranks : List (Option Ranked)) (beaten : List ℕ) : Type 0 where
  pub forced : HasForced raw bound forcing
  pub ranks_are : AreRankedWithin forcing.inputs (raw.arena.slots - forcing.inputs) (automaton_of raw) (length raw.rows) (suc bound) ranks
  pub beaten_are : AreNew forcing.inputs (raw.arena.slots - forcing.inputs) (automaton_of raw) bound beaten

abbrev pub AreUnranked : ℕ → ℕ → Automaton ℕ → ℕ → ℕ → List ℕ → Type 0
AreUnranked n m automaton states bound looked =
    (state : ℕ) → state < states → ¬ Contains looked state → is_beaten n m automaton (suc bound) state ≡ is_beaten n m automaton bound state

abbrev pub IsDecided : ℕ → ℕ → Automaton ℕ → ℕ → ℕ → Option Ranked → Type 0
IsDecided n m automaton bound state entry = IsRankedWithin n m automaton (suc bound) state entry ⊎ IsRankedWithin n m automaton bound state entry

pub record IsJustNew (n m : ℕ) (automaton : Automaton ℕ) (bound state : ℕ) (entry : Option Ranked) : Type 0 where
  pub accepts : IsTrue (automaton.accepting state)
  pub beaten : IsTrue (is_beaten n m automaton (suc bound) state)
  pub unranked : entry ≡ None
