-- Which raw states the canonical automaton keeps, and which numbers it gives. A class is a block that one of some listed
-- states is in; here these are the states that words lead to, in the order of their least words.
--     block_at blocks states place              the block of the state that is listed at this place
--     AreFirsts blocks states count places      of each class of the first so many states, the place of the first that is in it
--     firsts_of states places                   the states at these places
--     HasFirsts blocks states count start kept  the start, and after it the first state of each class
--     AreMet blocks states count met            which blocks the first so many states are in
--     HaveSameRow raw blocks first second       from both states each letter leads to one block
--     IsFirstLike raw blocks state firsts place the place of the first of these states that has the row of this one, if one has
--     kept_of start firsts place                the start and the first states; where there is a place, the state there takes the start's
--     AreKept raw blocks states kept alone      the raw states that the canonical automaton keeps, that of each number at its place
--     IsKeptList raw blocks kept                some states of which no two are in one block
--     AreBlockNumbers blocks kept numbers       for the block of each kept state its number
--     AreNumbers blocks kept numbers            for each state the number of the kept state in its block
use Rattle.std.specs.Prelude.{◌≡◌, ◌≢◌, ℕ, ◌^◌, ◌<◌, ◌≤◌, Bool, true, false, List, ◌∷◌, length, map, take, slice_index_or, Contains, Option, None, Some, is_none}
use Rattle.std.specs.List.{All, AllPairs, remove}
use Rattle.dcv_dfa.specs.Raw.{RawValue, next_in}
use Rattle.dcv_refinement.specs.Members.{block_of}

abbrev pub block_at : List ℕ → List ℕ → ℕ → ℕ
block_at blocks states place = block_of blocks (slice_index_or states place 0)

-- ---- the first state of each class

-- one of these places is no later, and has a state of the same block
pub record HasFirst (blocks states places : List ℕ) (place : ℕ) : Type 0 where
  pub first : ℕ
  pub among : Contains places first
  pub same : block_at blocks states first ≡ block_at blocks states place
  pub no_later : first ≤ place

pub record AreFirsts (blocks states : List ℕ) (count : ℕ) (places : List ℕ) : Type 0 where
  pub within : All (λ place. place < count) places
  pub ascend : AllPairs (λ first second. first < second) places
  pub apart : AllPairs (λ first second. block_at blocks states first ≢ block_at blocks states second) places
  pub each : (place : ℕ) → place < count → HasFirst blocks states places place

abbrev pub firsts_of : List ℕ → List ℕ → List ℕ
firsts_of states places = map (λ place. slice_index_or states place 0) places

pub record HasFirsts (blocks states : List ℕ) (count start : ℕ) (kept : List ℕ) : Type 0 where
  pub places : List ℕ
  pub firsts : AreFirsts blocks states count places
  pub are : kept ≡ start ∷ firsts_of states places

-- one of the first so many states is in the block
pub record IsMet (blocks states : List ℕ) (count block : ℕ) : Type 0 where
  pub place : ℕ
  pub within : place < count
  pub is : block_at blocks states place ≡ block

pub record AreMet (blocks states : List ℕ) (count : ℕ) (met : List Bool) : Type 0 where
  pub beside : length met ≡ length blocks
  pub all : (place : ℕ) → place < count → slice_index_or met (block_at blocks states place) false ≡ true
  pub no_others : (block : ℕ) → slice_index_or met block false ≡ true → IsMet blocks states count block

-- ---- the class of the start

abbrev pub HaveSameRow : RawValue → List ℕ → ℕ → ℕ → Type 0
HaveSameRow raw blocks first second = (letter : List Bool) → length letter ≡ raw.arena.slots
    → block_of blocks (next_in raw first letter) ≡ block_of blocks (next_in raw second letter)

pub record IsLikeAt (raw : RawValue) (blocks : List ℕ) (state : ℕ) (firsts : List ℕ) (place : ℕ) : Type 0 where
  pub within : place < length firsts
  pub same : HaveSameRow raw blocks state (slice_index_or firsts place 0)
  pub earlier : All (λ first. ¬ HaveSameRow raw blocks state first) (take place firsts)

abbrev pub IsFirstLike : RawValue → List ℕ → ℕ → List ℕ → Option ℕ → Type 0
IsFirstLike raw blocks state firsts None = All (λ first. ¬ HaveSameRow raw blocks state first) firsts
IsFirstLike raw blocks state firsts (Some place) = IsLikeAt raw blocks state firsts place

-- ---- the states that are kept

abbrev pub kept_of : ℕ → List ℕ → Option ℕ → List ℕ
kept_of start firsts None = start ∷ firsts
kept_of start firsts (Some place) = slice_index_or firsts place 0 ∷ remove firsts place

-- the start stands alone where no class has its row
pub record AreKept (raw : RawValue) (blocks states kept : List ℕ) (alone : Bool) : Type 0 where
  pub places : List ℕ
  pub firsts : AreFirsts blocks states (length states) places
  pub shared : Option ℕ
  pub first : IsFirstLike raw blocks raw.start (firsts_of states places) shared
  pub are : kept ≡ kept_of raw.start (firsts_of states places) shared
  pub stands : alone ≡ is_none shared

-- at least one state, each a raw state with a block, and no two in one block
pub record IsKeptList (raw : RawValue) (blocks kept : List ℕ) : Type 0 where
  pub some : 0 < length kept
  pub bound : length kept < 2 ^ 32
  pub inside : All (λ state. state < length raw.rows) kept
  pub inside_blocks : All (λ state. state < length blocks) kept
  pub apart : AllPairs (λ first second. block_of blocks first ≢ block_of blocks second) kept

-- ---- numbers

pub record AreBlockNumbers (blocks kept numbers : List ℕ) : Type 0 where
  pub beside : length numbers ≡ length blocks
  pub below : All (λ number. number < length kept) numbers
  pub each : (number : ℕ) → number < length kept → slice_index_or numbers (block_at blocks kept number) 0 ≡ number

pub record AreNumbers (blocks kept numbers : List ℕ) : Type 0 where
  pub beside : length numbers ≡ length blocks
  pub below : All (λ number. number < length kept) numbers
  pub each : (state number : ℕ) → state < length blocks → number < length kept → block_of blocks state ≡ block_at blocks kept number
      → slice_index_or numbers state 0 ≡ number
