-- What a judgement knows: the tracks of the names in sight, and what the macros in sight mean.
use Rattle.std.specs.Prelude.{ℕ, Bool, List, [], ◌∷◌, ◌++◌, Option, Some, None, bytes_eq, if◌then◌else◌}
use Rattle.std.specs.List.{zip}
use Rattle.dcv_logic.specs.Track.{Track}

-- What a macro means is a function of its arguments' tracks, and knows nothing of its caller.
pub data Meaning : Type 0 where
  -- of a proposition macro: its truth at an instant
  PropMeaning : (List Track → ℕ → Bool) → Meaning
  -- of a formula macro: its truth on an interval
  FormulaMeaning : (List Track → ℕ → ℕ → Bool) → Meaning

-- Each list has the newest first, so a name hides what stands after it under the same name.
pub record Environment : Type 0 where
  -- how many instants the behaviour has
  pub instants : ℕ
  -- variables, parameters and quantified names
  pub tracks : List (List ℕ × Track)
  pub macros : List (List ℕ × Meaning)

-- what stands first under a name
abbrev pub found : {X : Type 0} → List (List ℕ × X) → List ℕ → Option X
found [] name = None
found (entry ∷ entries) name = if bytes_eq entry.0 name then Some entry.1 else found entries name

-- the name stands for the track
abbrev pub bind : Environment → List ℕ → Track → Environment
bind env name track = record env { tracks = (name, track) ∷ env.tracks }

-- each parameter stands for the argument at its place
abbrev pub bind_all : Environment → List (List ℕ) → List Track → Environment
bind_all env parameters arguments = record env { tracks = zip parameters arguments ++ env.tracks }
