-- Hashes by blocks: a ref's hash goes with the function that has, at each letter, the block of the state to which the ref leads.
--     golden_ratio, mixer              the numbers by which a hash is multiplied
--     stirred slot lo hi               a number from three
--     mixed slot lo hi                 the hash of a node at this slot whose children have these; where they have one, it is that one
--     hash_at blocks hashes ref        the hash of a ref
--     hash_of_node arena blocks hashes place   the hash that the children of the node at this place make
--     AreHashes arena blocks hashes    each place that has a hash has the one that the node's children make
--     alike_of raw blocks hashes state the state's block, and the hash of its row
--     IsPut old new                    one more state is in the block of its part, which is there or is added with the state as its witness
--     AreDivided part count parts blocks witness   so many states are in blocks by their parts
--     Splits raw old new               the new blocks are parts of old ones, and states that were alike are in one of them
use Rattle.std.specs.Prelude.{◌≡◌, ◌≢◌, ℕ, ◌+◌, ◌*◌, ◌%◌, ◌^◌, ◌<◌, ◌≤◌, ◌==◌, List, [], ◌∷◌, ◌++◌, length, slice_get, slice_index_or, Some, ◌⊎◌, if◌then◌else◌}
use Rattle.std.specs.Int.{w64, rotate_left}
use Rattle.dcv_arena.specs.Arena.{ArenaValue, level_of}
use Rattle.dcv_arena.specs.declared.nodes.Ref.{Ref}
use Rattle.dcv_arena.specs.declared.nodes.Ref.TheVariants.{Leaf, Place}
use Rattle.dcv_dfa.specs.NodeLines.{lo_of, hi_of}
use Rattle.dcv_dfa.specs.Raw.{RawValue, row_of}
use Rattle.dcv_refinement.specs.Members.{block_of}
use Rattle.dcv_minimise.specs.Rounds.{IsState, AreAlike}
use Rattle.dcv_minimise.specs.declared.refine.hashes.Alike.{Alike}

-- 2^64 over the golden ratio, odd
abbrev pub golden_ratio : ℕ
golden_ratio = 11400714819323198485

-- odd, without pattern
abbrev pub mixer : ℕ
mixer = 15485907386658061715

unfoldable pub stirred : ℕ → ℕ → ℕ → ℕ
stirred slot lo hi =
    let first = rotate_left w64 ((lo + slot) % 2 ^ 64 * golden_ratio % 2 ^ 64) 29 in
    rotate_left w64 ((first + hi) % 2 ^ 64 * mixer % 2 ^ 64) 32

abbrev pub mixed : ℕ → ℕ → ℕ → ℕ
mixed slot lo hi = if lo == hi then lo else stirred slot lo hi

abbrev pub hash_at : List ℕ → List ℕ → Ref → ℕ
hash_at blocks hashes (Leaf state) = block_of blocks state
hash_at blocks hashes (Place place) = slice_index_or hashes place 0

abbrev pub hash_of_node : ArenaValue → List ℕ → List ℕ → ℕ → ℕ
hash_of_node arena blocks hashes place = mixed (level_of arena (Place place)) (hash_at blocks hashes (lo_of arena place)) (hash_at blocks hashes (hi_of arena place))

abbrev pub AreHashes : ArenaValue → List ℕ → List ℕ → Type 0
AreHashes arena blocks hashes = (place : ℕ) → place < length hashes → slice_index_or hashes place 0 ≡ hash_of_node arena blocks hashes place

abbrev pub alike_of : RawValue → List ℕ → List ℕ → ℕ → Alike
alike_of raw blocks hashes state = record { block = block_of blocks state; hash = hash_at blocks hashes (row_of raw state) }

-- what there is of parts, blocks and witnesses
pub record IsPut (X : Type 0) (parts new_parts : List X) (blocks new_blocks witness new_witness : List ℕ) (part : X) (state : ℕ) : Type 0 where
  pub number : ℕ
  pub block : new_blocks ≡ blocks ++ number ∷ []
  pub own : slice_get new_parts number ≡ Some part
  pub grows : ((new_parts ≡ parts) × (new_witness ≡ witness))
      ⊎ (((place : ℕ) → slice_get parts place ≢ Some part) × (number ≡ length parts) × (new_parts ≡ parts ++ part ∷ []) × (new_witness ≡ witness ++ state ∷ []))

pub record AreDivided (X : Type 0) (part : ℕ → X) (count : ℕ) (parts : List X) (blocks witness : List ℕ) : Type 0 where
  pub each : length blocks ≡ count
  pub size : length witness ≡ length parts
  pub few : length parts ≤ count
  pub once : (first second : ℕ) (one : X) → slice_get parts first ≡ Some one → slice_get parts second ≡ Some one → first ≡ second
  pub own_parts : (state : ℕ) → state < count → slice_get parts (block_of blocks state) ≡ Some (part state)
  pub states : (block : ℕ) → block < length witness → slice_index_or witness block 0 < count
  pub own : (block : ℕ) → block < length witness → block_of blocks (slice_index_or witness block 0) ≡ block

pub record Splits (raw : RawValue) (old new : List ℕ) : Type 0 where
  pub within : (first second : ℕ) → IsState raw first → IsState raw second → block_of new first ≡ block_of new second → block_of old first ≡ block_of old second
  pub joins : (first second : ℕ) → IsState raw first → IsState raw second → AreAlike raw old first second → block_of new first ≡ block_of new second
