-- What a sink has been given, where that is told.
use Rattle.std.specs.Prelude.{◌≡◌, ℕ, ◌<◌, ◌≤◌, List, ◌++◌, length, take, Option, option_map}

-- these bytes after those written before, where they are told
abbrev pub appended : Option (List ℕ) → List ℕ → Option (List ℕ)
appended written bytes = option_map (λ before. before ++ bytes) written

-- these bytes and no others were written: None stays None, and Some w becomes Some (w ++ bytes)
abbrev pub Appends : Option (List ℕ) → Option (List ℕ) → List ℕ → Type 0
Appends old new bytes = new ≡ appended old bytes

-- some bytes from the front of these, and no others, were written
abbrev pub AppendsPrefix : Option (List ℕ) → Option (List ℕ) → List ℕ → Type 0
AppendsPrefix old new bytes = (n : ℕ) × (n ≤ length bytes) × Appends old new (take n bytes)

-- some bytes from the front of these, but not all, and no others, were written
abbrev pub AppendsStrictPrefix : Option (List ℕ) → Option (List ℕ) → List ℕ → Type 0
AppendsStrictPrefix old new bytes = (n : ℕ) × (n < length bytes) × Appends old new (take n bytes)
