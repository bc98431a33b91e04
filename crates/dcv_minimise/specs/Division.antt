-- How a round divides the blocks: a state that has another row than the witness of its block moves to a part with a number of its own,
-- whose witness is the first state that moved there.
--     move_to state number       the state gets this number
--     IsGrouped raw blocks count witness    the first so many states witness the blocks, and no two of the witnesses are alike
--     IsPart raw blocks scratch witness part    the part is of the witness's block and key
--     IsMove raw blocks count witness move      the number is a new one, and the state is alike to its witness
--     IsDividing                 the parts are those of the new witnesses, in order
--     HasNumber                  a part has the number at which it stands among the parts, or is added with the next, and a witness with it
--     IsSettled raw blocks witness moves state    the state has the row of its block's witness, or it moves
--     IsDivision                 all listed states are settled
--     IsDivided                  the same, where witnesses were chosen before
--     HasMoved moves old new state    the state has the number of one of its moves, or has none and stayed
use Rattle.std.specs.Prelude.{◌≡◌, ◌≢◌, ℕ, ◌+◌, ◌<◌, ◌≤◌, List, [], ◌∷◌, ◌++◌, length, slice_get, slice_index_or, Some, Contains, ◌⊎◌}
use Rattle.std.specs.List.{All, AllPairs}
use Rattle.dcv_arena.specs.Arena.{ArenaValue}
use Rattle.dcv_dfa.specs.Raw.{RawValue}
use Rattle.dcv_refinement.specs.Members.{block_of}
use Rattle.dcv_minimise.specs.Rounds.{IsState, HaveOneRow, AreAlike, witness_of}
use Rattle.dcv_minimise.specs.Keys.{IsKeyOf}
use Rattle.dcv_minimise.specs.Listing.{IsChosen}
use Rattle.dcv_minimise.specs.declared.refine.division.Move.{Move}
use Rattle.dcv_minimise.specs.declared.refine.division.Part.{Part}

abbrev pub move_to : ℕ → ℕ → Move
move_to state number = record { state = state; number = number }

pub record IsGrouped (raw : RawValue) (blocks : List ℕ) (count : ℕ) (witness : List ℕ) : Type 0 where
  pub each : length blocks ≡ length raw.rows
  pub numbers : (state : ℕ) → IsState raw state → block_of blocks state < count
  pub many : count ≤ length witness
  pub states : All (IsState raw) witness
  pub own : (block : ℕ) → block < count → block_of blocks (slice_index_or witness block 0) ≡ block
  pub apart : AllPairs (λ first second. ¬ AreAlike raw blocks first second) witness

pub record IsPart (raw : RawValue) (blocks : List ℕ) (scratch : ArenaValue) (witness : ℕ) (part : Part) : Type 0 where
  pub block : part.block ≡ block_of blocks witness
  pub key : IsKeyOf raw blocks scratch witness part.key

pub record IsMove (raw : RawValue) (blocks : List ℕ) (count : ℕ) (witness : List ℕ) (move : Move) : Type 0 where
  pub is_state : IsState raw move.state
  pub new : count ≤ move.number
  pub number : move.number < length witness
  pub alike : AreAlike raw blocks move.state (slice_index_or witness move.number 0)

pub record IsDividing (raw : RawValue) (blocks : List ℕ) (count : ℕ) (scratch : ArenaValue) (witness : List ℕ) (parts : List Part) (moves : List Move) : Type 0 where
  pub grouped : IsGrouped raw blocks count witness
  pub size : length witness ≡ count + length parts
  pub each_part : (place : ℕ) (part : Part) → slice_get parts place ≡ Some part → IsPart raw blocks scratch (slice_index_or witness (count + place) 0) part
  pub each_move : All (IsMove raw blocks count witness) moves

pub record IsThere (count : ℕ) (old new : List Part) (was is : List ℕ) (part : Part) (number : ℕ) : Type 0 where
  pub place : ℕ
  pub at : slice_get old place ≡ Some part
  pub number_is : number ≡ count + place
  pub parts : new ≡ old
  pub witness : is ≡ was

pub record IsAdded (count : ℕ) (old new : List Part) (was is : List ℕ) (part : Part) (state number : ℕ) : Type 0 where
  pub absent : (place : ℕ) → slice_get old place ≢ Some part
  pub number_is : number ≡ count + length old
  pub parts : new ≡ old ++ part ∷ []
  pub witness : is ≡ was ++ state ∷ []

abbrev pub HasNumber : ℕ → List Part → List Part → List ℕ → List ℕ → Part → ℕ → ℕ → Type 0
HasNumber count old new was is part state number = IsThere count old new was is part number ⊎ IsAdded count old new was is part state number

abbrev pub IsSettled : RawValue → List ℕ → List ℕ → List Move → ℕ → Type 0
IsSettled raw blocks witness moves state =
    HaveOneRow raw blocks state (witness_of blocks witness state) ⊎ ((number : ℕ) × Contains moves (move_to state number))

abbrev pub HasMoved : List Move → List ℕ → List ℕ → ℕ → Type 0
HasMoved moves old new state =
    Contains moves (move_to state (block_of new state)) ⊎ ((block_of new state ≡ block_of old state) × ((number : ℕ) → ¬ Contains moves (move_to state number)))

-- what is there when all listed states have been settled
pub record IsDivision (raw : RawValue) (blocks old witness listed : List ℕ) (moves : List Move) : Type 0 where
  pub grouped : IsGrouped raw blocks (length old) witness
  pub firsts : (block : ℕ) → block < length old → slice_index_or witness block 0 ≡ slice_index_or old block 0
  pub settled : All (IsSettled raw blocks witness moves) listed
  pub each_move : All (IsMove raw blocks (length old) witness) moves

-- the same with other witnesses of blocks that are listed in full
pub record IsDivided (raw : RawValue) (blocks full old witness listed : List ℕ) (moves : List Move) : Type 0 where
  pub chosen : List ℕ
  pub size : length chosen ≡ length old
  pub is_chosen : IsChosen blocks full old chosen
  pub division : IsDivision raw blocks chosen witness listed moves
