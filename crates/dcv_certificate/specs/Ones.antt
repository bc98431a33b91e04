-- States that have 1 at a letter, and how many of them each block has.
--     is_one ones state               whether a state is among them
--     ones_in ones block              how many of a block's states are
--     AreNoOnes ones                  there are none
--     IsOneMore old state block new   a state more, or the same if it was there
--     AreCounted blocks ones          they are states, and they are counted right
--     are_few_in sizes ones block     whether no more of the block's states are ones than are not
--     AreCandidates blocks sizes ones states       these have all ones, and all states of the blocks in which ones are not few
--     AreRarer blocks sizes ones candidates part   the part has the candidates that stand on the smaller side of their block
use Rattle.std.specs.Prelude.{◌≡◌, ◌≢◌, ℕ, ◌+◌, ◌/◌, ◌<◌, ◌==◌, ◌&&◌, ◌||◌, leb, unwrap_or, nat_eq, Bool, true, false, if◌then◌else◌, List, length, slice_index_or, Contains}
use Rattle.std.specs.Bool.{beq}
use Rattle.std.specs.List.{All}
use Rattle.indexmap.specs.IndexMap.{get}
use Rattle.indexmap.specs.IndexSet.{contains}
use Rattle.dcv_refinement.specs.Members.{block_of}
use Rattle.dcv_certificate.specs.declared.ones.Ones.{Ones}
use Rattle.dcv_certificate.specs.Separation.{has, count_below}

abbrev pub is_one : Ones → ℕ → Bool
is_one ones state = contains nat_eq ones.states state

abbrev pub ones_in : Ones → ℕ → ℕ
ones_in ones block = unwrap_or (get nat_eq ones.counts block) 0

pub record AreNoOnes (ones : Ones) : Type 0 where
  pub none : (state : ℕ) → is_one ones state ≡ false
  pub no_counts : (block : ℕ) → ones_in ones block ≡ 0
  pub no_blocks : All (λ block. 0 < ones_in ones block) ones.blocks.items

pub record IsOneMore (old : Ones) (state block : ℕ) (new : Ones) : Type 0 where
  pub states_are : (other : ℕ) → is_one new other ≡ (is_one old other || (state == other))
  pub here : ones_in new block ≡ ones_in old block + (if is_one old state then 0 else 1)
  pub others : (other : ℕ) → other ≢ block → ones_in new other ≡ ones_in old other
  pub listed : ((other : ℕ) → 0 < ones_in old other → Contains old.blocks.items other) → (other : ℕ) → 0 < ones_in new other → Contains new.blocks.items other
  pub only : All (λ other. 0 < ones_in old other) old.blocks.items → All (λ other. 0 < ones_in new other) new.blocks.items

pub record AreCounted (blocks : List ℕ) (ones : Ones) : Type 0 where
  pub states_are : (state : ℕ) → is_one ones state ≡ true → state < length blocks
  pub numbers : (block : ℕ) → ones_in ones block ≡ count_below (length blocks) (λ state. (block_of blocks state == block) && is_one ones state)
  pub listed : (block : ℕ) → 0 < ones_in ones block → Contains ones.blocks.items block
  pub only : All (λ block. 0 < ones_in ones block) ones.blocks.items

abbrev pub are_few_in : List ℕ → Ones → ℕ → Bool
are_few_in sizes ones block = leb (ones_in ones block) (slice_index_or sizes block 0 / 2)

pub record AreCandidates (blocks sizes : List ℕ) (ones : Ones) (states : List ℕ) : Type 0 where
  pub every_one : (state : ℕ) → is_one ones state ≡ true → Contains states state
  pub others : (state : ℕ) → state < length blocks → are_few_in sizes ones (block_of blocks state) ≡ false → Contains states state

abbrev pub AreRarer : List ℕ → List ℕ → Ones → List ℕ → List ℕ → Type 0
AreRarer blocks sizes ones candidates part = (state : ℕ)
    → has part state ≡ (has candidates state && beq (is_one ones state) (are_few_in sizes ones (block_of blocks state)))
