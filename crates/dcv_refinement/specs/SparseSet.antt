-- A set of numbers, as the list of them in the order in which they came.
--     has numbers number            whether a number is among them
--     with_number numbers number    the numbers, with this one after them where it is not among them
--     IsPlaceOf numbers number place    the place at which a number stands, or none where it is not among them
--     is_at numbers place number    whether a number stands at a place
--     StandAt numbers places        for each of the numbers, `places` has the place at which it stands
use Rattle.std.specs.Prelude.{◌≡◌, ℕ, ◌<◌, Bool, false, eqb, ◌==◌, if◌then◌else◌, List, [], ◌∷◌, ◌++◌, length, Option, None, Some, slice_get, slice_index_or}
use Rattle.std.specs.List.{list_any}
use Rattle.std.specs.Option.{option_map_or}

abbrev pub has : List ℕ → ℕ → Bool
has numbers number = list_any (eqb number) numbers

abbrev pub with_number : List ℕ → ℕ → List ℕ
with_number numbers number = if has numbers number then numbers else numbers ++ number ∷ []

abbrev pub IsPlaceOf : List ℕ → ℕ → Option ℕ → Type 0
IsPlaceOf numbers number None = has numbers number ≡ false
IsPlaceOf numbers number (Some place) = slice_get numbers place ≡ Some number

abbrev pub is_at : List ℕ → ℕ → ℕ → Bool
is_at numbers place number = option_map_or (λ one. one == number) (slice_get numbers place) false

abbrev pub StandAt : List ℕ → List ℕ → Type 0
StandAt numbers places = (place : ℕ) → place < length numbers → slice_index_or places (slice_index_or numbers place 0) 0 ≡ place
