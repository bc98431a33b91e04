-- Rounds of refinement: blocks are divided by the blocks to which letters lead, until no letter divides any.
--     IsState raw state                  it is a number of one
--     HaveOneRow raw blocks first second each letter leads from both to one block
--     AreAlike raw blocks first second   they are in one block and have one row
--     IsRound raw old new                two states are in one new block exactly where they were alike
--     HaveStayed raw old new moved       the states that are not listed have the number that they had
--     witness_of blocks witness state    the listed state of the state's block
--     IsWitnessed raw blocks witness     the blocks are the numbers below a count, and a state of each is listed at its number
--     IsTold raw blocks                  one block, one flag; and two blocks are apart
--     IsStableBut raw blocks moved       states of one block go on to one block, unless one of them goes to a listed state
--     LeadTo raw moved looked            each state that some letter leads to a listed state is looked at
--     IsRefined raw blocks witness moved all of it
--     IsByFlag raw blocks                the block is 0 or 1, by the flag
use Rattle.std.specs.Prelude.{◌≡◌, ◌≢◌, ℕ, ◌<◌, Bool, true, false, List, length, slice_index_or, Contains}
use Rattle.dcv_language.specs.Folding.{AreApartFrom}
use Rattle.dcv_dfa.specs.Raw.{RawValue, is_accepting, next_in, automaton_of}
use Rattle.dcv_refinement.specs.Members.{block_of}

abbrev pub IsState : RawValue → ℕ → Type 0
IsState raw state = state < length raw.rows

pub record HaveOneRow (raw : RawValue) (blocks : List ℕ) (first second : ℕ) : Type 0 where
  pub leads : (letter : List Bool) → length letter ≡ raw.arena.slots → block_of blocks (next_in raw first letter) ≡ block_of blocks (next_in raw second letter)

pub record AreAlike (raw : RawValue) (blocks : List ℕ) (first second : ℕ) : Type 0 where
  pub block : block_of blocks first ≡ block_of blocks second
  pub row : HaveOneRow raw blocks first second

pub record IsRound (raw : RawValue) (old new : List ℕ) : Type 0 where
  pub divides : (first second : ℕ) → IsState raw first → IsState raw second → block_of new first ≡ block_of new second → AreAlike raw old first second
  pub joins : (first second : ℕ) → IsState raw first → IsState raw second → AreAlike raw old first second → block_of new first ≡ block_of new second

abbrev pub HaveStayed : RawValue → List ℕ → List ℕ → List ℕ → Type 0
HaveStayed raw old new moved = (state : ℕ) → IsState raw state → ¬ Contains moved state → block_of new state ≡ block_of old state

abbrev pub witness_of : List ℕ → List ℕ → ℕ → ℕ
witness_of blocks witness state = slice_index_or witness (block_of blocks state) 0

pub record IsWitnessed (raw : RawValue) (blocks witness : List ℕ) : Type 0 where
  pub each : length blocks ≡ length raw.rows
  pub numbers : (state : ℕ) → IsState raw state → block_of blocks state < length witness
  pub states : (block : ℕ) → block < length witness → IsState raw (slice_index_or witness block 0)
  pub own : (block : ℕ) → block < length witness → block_of blocks (slice_index_or witness block 0) ≡ block

pub record IsTold (raw : RawValue) (blocks : List ℕ) : Type 0 where
  pub flags : (first second : ℕ) → IsState raw first → IsState raw second → block_of blocks first ≡ block_of blocks second
      → is_accepting raw first ≡ is_accepting raw second
  pub apart : (first second : ℕ) → IsState raw first → IsState raw second → block_of blocks first ≢ block_of blocks second
      → AreApartFrom raw.arena.slots (automaton_of raw) first second

abbrev pub IsStableBut : RawValue → List ℕ → List ℕ → Type 0
IsStableBut raw blocks moved = (first second : ℕ) (letter : List Bool) → IsState raw first → IsState raw second → length letter ≡ raw.arena.slots
    → block_of blocks first ≡ block_of blocks second → ¬ Contains moved (next_in raw first letter) → ¬ Contains moved (next_in raw second letter)
    → block_of blocks (next_in raw first letter) ≡ block_of blocks (next_in raw second letter)

abbrev pub LeadTo : RawValue → List ℕ → List ℕ → Type 0
LeadTo raw moved looked = (state : ℕ) (letter : List Bool) → IsState raw state → length letter ≡ raw.arena.slots → Contains moved (next_in raw state letter) → Contains looked state

pub record IsRefined (raw : RawValue) (blocks witness moved : List ℕ) : Type 0 where
  pub witnessed : IsWitnessed raw blocks witness
  pub told : IsTold raw blocks
  pub stable : IsStableBut raw blocks moved

-- ---- the first blocks

-- one of two blocks, by whether the flag is the first state's
abbrev pub flag_block : Bool → Bool → ℕ
flag_block true true = 0
flag_block true false = 1
flag_block false true = 1
flag_block false false = 0

abbrev pub IsByFlag : RawValue → List ℕ → Type 0
IsByFlag raw blocks = (state : ℕ) → IsState raw state → block_of blocks state ≡ flag_block (is_accepting raw 0) (is_accepting raw state)

-- the listed states are in the blocks of their places, and each state's block has one
pub record IsByNumber (blocks witness : List ℕ) : Type 0 where
  pub numbers : (state : ℕ) → state < length blocks → block_of blocks state < length witness
  pub states : (block : ℕ) → block < length witness → slice_index_or witness block 0 < length blocks
  pub own : (block : ℕ) → block < length witness → block_of blocks (slice_index_or witness block 0) ≡ block
