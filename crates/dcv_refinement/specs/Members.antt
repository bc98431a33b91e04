-- The members of blocks, in lists that may have others too.
--     list_of members block            the list of a block
--     is_in blocks block member        whether the member has this block
--     IsPut old block member new       the list of the block has the member more, and no list has anything else more
--     IsMended blocks block old new    the list of the block has those of its members that it had, and no others; each other list is as it was
--     HaveTheirOwn blocks members      each list has all members of its block
--     block_of blocks member           the number of a member's block
use Rattle.std.specs.Prelude.{◌≡◌, ◌≢◌, ◌⊎◌, ◌↔◌, ℕ, ◌<◌, ◌==◌, Bool, false, List, [], length, slice_get, slice_index_or, Contains}
use Rattle.std.specs.Option.{option_map_or}

abbrev pub list_of : List (List ℕ) → ℕ → List ℕ
list_of members block = slice_index_or members block []

abbrev pub block_of : List ℕ → ℕ → ℕ
block_of blocks member = slice_index_or blocks member 0

abbrev pub is_in : List ℕ → ℕ → ℕ → Bool
is_in blocks block member = option_map_or (λ own. own == block) (slice_get blocks member) false

pub record IsPut (old : ℕ → List ℕ) (block member : ℕ) (new : ℕ → List ℕ) : Type 0 where
  pub keeps : (at one : ℕ) → Contains (old at) one → Contains (new at) one
  pub has : Contains (new block) member
  pub only : (at one : ℕ) → Contains (new at) one → Contains (old at) one ⊎ ((at ≡ block) × (one ≡ member))

pub record IsMended (blocks : List ℕ) (block : ℕ) (old new : ℕ → List ℕ) : Type 0 where
  pub own : (member : ℕ) → Contains (new block) member ↔ (Contains (old block) member × ((member < length blocks) × (slice_index_or blocks member 0 ≡ block)))
  pub others : (other : ℕ) → other ≢ block → new other ≡ old other

abbrev pub HaveTheirOwn : List ℕ → (ℕ → List ℕ) → Type 0
HaveTheirOwn blocks members = (member : ℕ) → member < length blocks → Contains (members (slice_index_or blocks member 0)) member
