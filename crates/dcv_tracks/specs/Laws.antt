-- The laws that `src/laws.rt` proves. A goal is over k declared variables, and a word over these has a letter at least.
use Rattle.std.specs.Prelude.{◌≡◌, ℕ, ◌-◌, ◌<◌, ◌≤◌, List, length, None}
use Rattle.dcv_word.specs.Behaviour.{Word, IsBehaviour}
use Rattle.dcv_logic.specs.Track.{Track}
use Rattle.dcv_core.specs.Core.{CoreTree}
use Rattle.dcv_core.specs.Holds.{core_holds, expanded_holds}
use Rattle.dcv_tracks.specs.Shifting.{shifts_in, placed_core, shifted_core, bound_shift}
use Rattle.dcv_tracks.specs.Tracks.{with_tracks, AreTracks}

-- for every word exactly one list of tracks is accepted by the rows of all shifts
abbrev pub OneListOfTracks : Type 0
OneListOfTracks = (k : ℕ) (goal : CoreTree) (word : Word) → IsBehaviour k word
    → (tracks : List Track) × AreTracks k (shifts_in goal) k (shifts_in goal) word tracks
    × ((others : List Track) → AreTracks k (shifts_in goal) k (shifts_in goal) word others → others ≡ tracks)

-- on these tracks the goal with slots for its shifts holds on an interval exactly where the goal does
abbrev pub GoalHoldsOnTracks : Type 0
GoalHoldsOnTracks = (k : ℕ) (goal : CoreTree) (word : Word) (tracks : List Track) → IsBehaviour k word → bound_shift k goal ≡ None
    → AreTracks k (shifts_in goal) k (shifts_in goal) word tracks → (b e : ℕ) → b ≤ e → e < length word
    → core_holds (placed_core k (shifts_in goal) goal) (with_tracks word tracks) b e ≡ expanded_holds goal word b e

-- and the whole core holds on a word exactly where the goal does
abbrev pub CoreHoldsOnWord : Type 0
CoreHoldsOnWord = (k : ℕ) (goal : CoreTree) (word : Word) → IsBehaviour k word → bound_shift k goal ≡ None
    → core_holds (shifted_core k goal) word 0 (length word - 1) ≡ expanded_holds goal word 0 (length word - 1)
