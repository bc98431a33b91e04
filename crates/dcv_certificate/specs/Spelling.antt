-- How the words of found states are spelled.
--     spelling_of found before letter     the word at a place, or none, and a letter
--     AreSpellings states found access    for each state that is found how its word is spelled, and the empty word for the others
use Rattle.std.specs.Prelude.{◌≡◌, ◌≢◌, ℕ, ◌<◌, Bool, List, Option, None, Some, length, slice_get, slice_index_or}
use Rattle.dcv_reach.specs.declared.reached.Found.{Found}
use Rattle.dcv_reach.specs.Reached.{states_of}
use Rattle.dcv_language.specs.declared.certificate.Access.{Access}
use Rattle.dcv_language.specs.declared.certificate.Access.TheVariants.{Empty, Start, After}

abbrev pub spelling_of : List Found → Option ℕ → List Bool → Access
spelling_of found None letter = Start letter
spelling_of found (Some place) letter = After (slice_index_or (states_of found) place 0) letter

pub record AreSpellings (states : ℕ) (found : List Found) (access : List Access) : Type 0 where
  pub count : length access ≡ states
  pub found_ones : (place : ℕ) (one : Found) → slice_get found place ≡ Some one
      → slice_index_or access one.state Empty ≡ spelling_of found one.before one.letter
  pub others : (state : ℕ) → state < states → ((place : ℕ) → place < length found → slice_index_or (states_of found) place 0 ≢ state)
      → slice_index_or access state Empty ≡ Empty
