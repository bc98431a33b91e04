-- Tracks for the slots of shifts.
--     with_tracks word tracks     a slot more for each track
--     AreTracks                   each track is accepted by its shift's row
use Rattle.std.specs.Prelude.{◌≡◌, ℕ, suc, ◌-◌, true, List, [], ◌∷◌, length}
use Rattle.dcv_word.specs.Behaviour.{Word}
use Rattle.dcv_language.specs.Operations.{with_track}
use Rattle.dcv_logic.specs.Track.{Track}
use Rattle.dcv_core.specs.Holds.{basic_holds}
use Rattle.dcv_tracks.specs.Shifting.{Shift, shift_basic}

abbrev pub with_tracks : Word → List Track → Word
with_tracks word [] = word
with_tracks word (track ∷ tracks) = with_tracks (with_track word track) tracks

-- These of all shifts have the slots from the next on, and a track each; the row of each accepts the word with the tracks up to its own.
abbrev pub AreTracks : ℕ → List Shift → ℕ → List Shift → Word → List Track → Type 0
AreTracks k all slot [] word [] = Unit {0}
AreTracks k all slot (shift ∷ shifts) word (track ∷ tracks) =
    (length track ≡ length word)
    × (basic_holds (shift_basic k all shift slot) (with_track word track) 0 (length word - 1) ≡ true)
    × AreTracks k all (suc slot) shifts (with_track word track) tracks
AreTracks k all slot _ word _ = ⊥
