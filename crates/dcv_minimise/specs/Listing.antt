-- Which states a round has to compare with the witnesses of their blocks.
--     IsListed blocks listed block      all states of the block are listed
--     IsAlone blocks witness block      the block has no state but its witness
--     IsListing blocks witness looked listed full    the looked-at states are listed, or alone; so are all of a block whose witness
--         is looked at; and all of the blocks that are listed in full
--     IsSingle blocks block             the block has one state
--     IsBlockAdded                      the states of a list are listed with the others, if there are more than one
--     ListsMore                         what is listed grows, by states that there are, and each block listed in full has all of its states listed
--     IsBlockListed                     the states of a block are, if there are more than one
--     LooksAt                           what looking at a state adds to what is listed
--     IsChosen blocks full old new      a witness is what it was, or another state of a block that is listed in full
use Rattle.std.specs.Prelude.{◌≡◌, ℕ, ◌<◌, ◌≤◌, List, length, slice_index_or, Contains, ◌⊎◌}
use Rattle.std.specs.List.{All}
use Rattle.dcv_refinement.specs.Members.{block_of}
use Rattle.dcv_minimise.specs.Rounds.{witness_of}

abbrev pub IsListed : List ℕ → List ℕ → ℕ → Type 0
IsListed blocks listed block = (state : ℕ) → state < length blocks → block_of blocks state ≡ block → Contains listed state

abbrev pub IsAlone : List ℕ → List ℕ → ℕ → Type 0
IsAlone blocks witness block = (state : ℕ) → state < length blocks → block_of blocks state ≡ block → state ≡ slice_index_or witness block 0

pub record IsListing (blocks witness looked listed full : List ℕ) : Type 0 where
  pub states : All (λ state. state < length blocks) listed
  pub each_looked : (state : ℕ) → Contains looked state → Contains listed state ⊎ IsAlone blocks witness (block_of blocks state)
  pub each_witness : (state : ℕ) → Contains looked state → state ≡ witness_of blocks witness state
      → IsListed blocks listed (block_of blocks state) ⊎ IsAlone blocks witness (block_of blocks state)
  pub each_full : (block : ℕ) → Contains full block → IsListed blocks listed block

abbrev pub IsSingle : List ℕ → ℕ → Type 0
IsSingle blocks block = (first second : ℕ) → first < length blocks → second < length blocks → block_of blocks first ≡ block → block_of blocks second ≡ block → first ≡ second

pub record IsBlockAdded (own : List ℕ) (block : ℕ) (states full new_states new_full : List ℕ) : Type 0 where
  pub grows : (state : ℕ) → Contains states state → Contains new_states state
  pub only : (state : ℕ) → Contains new_states state → Contains states state ⊎ Contains own state
  pub full_only : (one : ℕ) → Contains new_full one → Contains full one ⊎ ((one ≡ block) × All (Contains new_states) own)
  pub all : (length own ≤ 1) ⊎ All (Contains new_states) own

-- states are listed with the others, and a block is listed in full only where all of its states are
pub record ListsMore (blocks states full new_states new_full : List ℕ) : Type 0 where
  pub grows : (state : ℕ) → Contains states state → Contains new_states state
  pub only : (state : ℕ) → Contains new_states state → Contains states state ⊎ (state < length blocks)
  pub full_only : (one : ℕ) → Contains new_full one → Contains full one ⊎ IsListed blocks new_states one

pub record IsBlockListed (blocks : List ℕ) (block : ℕ) (states full new_states new_full : List ℕ) : Type 0 where
  pub more : ListsMore blocks states full new_states new_full
  pub all : IsSingle blocks block ⊎ IsListed blocks new_states block

pub record LooksAt (blocks witness : List ℕ) (state : ℕ) (states full new_states new_full : List ℕ) : Type 0 where
  pub more : ListsMore blocks states full new_states new_full
  pub looked : Contains new_states state ⊎ IsAlone blocks witness (block_of blocks state)
  pub as_witness : state ≡ witness_of blocks witness state → IsListed blocks new_states (block_of blocks state) ⊎ IsAlone blocks witness (block_of blocks state)

abbrev pub IsChosen : List ℕ → List ℕ → List ℕ → List ℕ → Type 0
IsChosen blocks full old new = (block : ℕ) → block < length old → (slice_index_or new block 0 ≡ slice_index_or old block 0)
    ⊎ (Contains full block × ((slice_index_or new block 0 < length blocks) × (block_of blocks (slice_index_or new block 0) ≡ block)))
