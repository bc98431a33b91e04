-- Tracks: the truths of one name at the instants of a behaviour.
use Rattle.std.specs.Prelude.{ℕ, zero, suc, ◌+◌, Bool, false, List, [], ◌∷◌, slice_index_or}
use Rattle.dcv_word.specs.Behaviour.{Word}

-- the truths of a name, that at instant 0 first
abbrev pub Track : Type 0
Track = List Bool

-- the truth at an instant, which is false where the track has none
abbrev pub truth_at : Track → ℕ → Bool
truth_at track i = slice_index_or track i false

-- the values of f at n instants from i on
abbrev pub values_from : (ℕ → Bool) → ℕ → ℕ → Track
values_from f i zero = []
values_from f i (suc n) = f i ∷ values_from f (i + 1) n

-- the track of a value at n instants
abbrev pub track_of : ℕ → (ℕ → Bool) → Track
track_of n f = values_from f 0 n

-- the track of a slot in a word, each letter of which is the list of its slots' truths
abbrev pub slot_track : Word → ℕ → Track
slot_track [] slot = []
slot_track (letter ∷ letters) slot = truth_at letter slot ∷ slot_track letters slot
