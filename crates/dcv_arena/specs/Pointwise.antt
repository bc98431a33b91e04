-- Functions that are made letter by letter: of what is given at a letter comes the number there, and what comes of what is a relation. A function
-- is made from slot to slot, and below a slot it is known only for the letters that begin with one front.
--     MeansMerged gives given arena root              the ref's number is one that comes of what is given there, at each letter
--     AgreesBehind gives given slots front function   the function has the number that comes of it, at the letters that begin with the front
--     FixesSlot whole part slot value                 the part is given what the whole is given where the slot has this value
--     exactly given number                            of a number comes that number
use Rattle.std.specs.Prelude.{◌≡◌, ℕ, ◌+◌, ◌<◌, Bool, List, ◌++◌, length, slice_set}
use Rattle.dcv_arena.specs.Arena.{ArenaValue, value_of}
use Rattle.dcv_arena.specs.declared.nodes.Ref.{Ref}

abbrev pub MeansMerged : {X : Type 0} → (X → ℕ → Type 0) → (List Bool → X) → ArenaValue → Ref → Type 0
MeansMerged gives given arena root = (letter : List Bool) → length letter ≡ arena.slots → gives (given letter) (value_of arena root letter)

-- wherever a number comes of what is given
abbrev pub AgreesBehind : {X : Type 0} → (X → ℕ → Type 0) → (List Bool → X) → ℕ → List Bool → (List Bool → ℕ) → Type 0
AgreesBehind gives given slots front function = (values : List Bool) (number : ℕ) → length front + length values ≡ slots
    → gives (given (front ++ values)) number → function (front ++ values) ≡ number

pub record FixesSlot {X : Type 0} (whole part : List Bool → X) (slot : ℕ) (value : Bool) : Type 0 where
  pub at : (letter : List Bool) → slot < length letter → part letter ≡ whole (slice_set letter slot value)

abbrev pub exactly : ℕ → ℕ → Type 0
exactly given number = number ≡ given
