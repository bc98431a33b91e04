-- Lists of numbers, each at a place.
--     list_at vectors place        the list that is kept at a place, and none after the last
--     AddsAt old new place number  the list there, if there is one, has this number more, and no list has anything else more
use Rattle.std.specs.Prelude.{◌≡◌, ℕ, ◌<◌, List, [], length, Vec, slice_get, Contains, ◌⊎◌}
use Rattle.std.specs.Option.{option_map_or}

abbrev pub list_at : {Z : Type 0} → List (Vec ℕ Z) → ℕ → List ℕ
list_at vectors place = option_map_or (λ vector. vector.items) (slice_get vectors place) []

pub record AddsAt {Z : Type 0} (old new : List (Vec ℕ Z)) (place number : ℕ) : Type 0 where
  pub size : length new ≡ length old
  pub keeps : (at one : ℕ) → Contains (list_at old at) one → Contains (list_at new at) one
  pub has : place < length old → Contains (list_at new place) number
  pub only : (at one : ℕ) → Contains (list_at new at) one → Contains (list_at old at) one ⊎ ((at ≡ place) × (one ≡ number))
