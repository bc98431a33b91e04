-- Suffixes that are listed one after another, and states in blocks: those that no listed suffix tells apart.
--     AreVertices raw                  states with rows and flags, at least one
--     word_at listed place             the suffix at a place
--     accepts_at raw listed place state    whether it is accepted from a state
--     Agree raw listed count first second      none of the first suffixes tells two states apart
--     TellAlike one other first second     one test tells two states apart where the other does
--     AreTogether raw blocks first second    two states are in one block
--     IsSplit states old part new      each block is split into the states of the part and the others
--     AreListed raw listed             the first is empty, each later one is a letter before an earlier one, and each tells states apart that none before it does
--     AreBlocks raw listed blocks      two states have one block exactly where all suffixes agree
--     AreParts raw listed parts        of the states that all earlier suffixes agree on, the part has those on one side of the suffix
--     IsSeparation raw suffixes blocks parts     all of this
--     AreFinished raw listed blocks count        a letter before one of the first suffixes tells no states of one block apart
--     IsSeparated raw listed           and before none of all: so no word tells states of one block apart
--     Advances raw ..                  suffixes were added, and blocks were split
use Rattle.std.specs.Prelude.{◌≡◌, ◌≢◌, ◌↔◌, ℕ, zero, suc, ◌+◌, ◌<◌, ◌≤◌, ◌==◌, Bool, if◌then◌else◌, List, [], ◌∷◌, length, slice_index_or}
use Rattle.std.specs.List.{All, list_any}
use Rattle.dcv_refinement.specs.Members.{block_of}
use Rattle.dcv_word.specs.Behaviour.{Word}
use Rattle.dcv_arena.specs.Arena.{IsArena, IsRef}
use Rattle.dcv_language.specs.Automaton.{accepts_from}
use Rattle.dcv_dfa.specs.Raw.{RawValue, LeadsBelow, next_in, automaton_of}
use Rattle.dcv_language.specs.declared.certificate.Suffix.{Suffix}
use Rattle.dcv_certificate.specs.Proof.{suffix_words, GoOnFromEarlier}

pub record AreVertices (raw : RawValue) : Type 0 where
  pub arena : IsArena raw.arena
  pub some : 0 < length raw.rows
  pub rows : All (IsRef raw.arena) raw.rows
  pub flags : length raw.accepting ≡ length raw.rows
  pub numbers : All (LeadsBelow raw.arena (length raw.rows)) raw.rows

-- ---- suffixes and states

abbrev pub word_at : List Word → ℕ → Word
word_at listed place = slice_index_or listed place []

abbrev pub accepts_word : RawValue → Word → ℕ → Bool
accepts_word raw word state = accepts_from (automaton_of raw) state word

abbrev pub accepts_at : RawValue → List Word → ℕ → ℕ → Bool
accepts_at raw listed place state = accepts_word raw (word_at listed place) state

abbrev pub Agree : RawValue → List Word → ℕ → ℕ → ℕ → Type 0
Agree raw listed count first second = (place : ℕ) → place < count → accepts_at raw listed place first ≡ accepts_at raw listed place second

abbrev pub TellAlike : (ℕ → Bool) → (ℕ → Bool) → ℕ → ℕ → Type 0
TellAlike one other first second = (one first ≡ one second) ↔ (other first ≡ other second)

abbrev pub has : List ℕ → ℕ → Bool
has numbers number = list_any (λ one. one == number) numbers

abbrev pub part_at : List (List ℕ) → ℕ → List ℕ
part_at parts place = slice_index_or parts place []

-- two states, of those that there are, in one block
pub record AreTogether (raw : RawValue) (blocks : List ℕ) (first second : ℕ) : Type 0 where
  pub first_is : first < length raw.rows
  pub second_is : second < length raw.rows
  pub same : block_of blocks first ≡ block_of blocks second

-- each block is split into the states that are in the part and those that are not
pub record IsSplit (states : ℕ) (old part new : List ℕ) : Type 0 where
  pub each : length new ≡ length old
  pub split : (first second : ℕ) → first < states → second < states
      → (block_of new first ≡ block_of new second) ↔ ((block_of old first ≡ block_of old second) × (has part first ≡ has part second))

-- ---- what is listed

pub record GrowsAt (slots : ℕ) (listed : List Word) (place : ℕ) : Type 0 where
  pub letter : List Bool
  pub from : ℕ
  pub width : length letter ≡ slots
  pub earlier : from < place
  pub grown : word_at listed place ≡ letter ∷ word_at listed from

pub record TellsNewStates (raw : RawValue) (listed : List Word) (place : ℕ) : Type 0 where
  pub first : ℕ
  pub second : ℕ
  pub first_is : first < length raw.rows
  pub second_is : second < length raw.rows
  pub agree : Agree raw listed place first second
  pub differ : accepts_at raw listed place first ≢ accepts_at raw listed place second

pub record AreListed (raw : RawValue) (listed : List Word) : Type 0 where
  pub some : 0 < length listed
  pub first : word_at listed 0 ≡ []
  pub grow : (place : ℕ) → 0 < place → place < length listed → GrowsAt raw.arena.slots listed place
  pub new : (place : ℕ) → 0 < place → place < length listed → TellsNewStates raw listed place

pub record AreBlocks (raw : RawValue) (listed : List Word) (blocks : List ℕ) : Type 0 where
  pub each : length blocks ≡ length raw.rows
  pub together : (first second : ℕ) → AreTogether raw blocks first second → Agree raw listed (length listed) first second
  pub apart : (first second : ℕ) → first < length raw.rows → second < length raw.rows → Agree raw listed (length listed) first second
      → block_of blocks first ≡ block_of blocks second

pub record AreParts (raw : RawValue) (listed : List Word) (parts : List (List ℕ)) : Type 0 where
  pub each : length parts ≡ length listed
  pub part : (place first second : ℕ) → place < length listed → first < length raw.rows → second < length raw.rows
      → Agree raw listed place first second → TellAlike (accepts_at raw listed place) (has (part_at parts place)) first second

pub record IsSeparation (raw : RawValue) (suffixes : List Suffix) (blocks : List ℕ) (parts : List (List ℕ)) : Type 0 where
  pub earlier : GoOnFromEarlier suffixes
  pub are_listed : AreListed raw (suffix_words suffixes)
  pub are_blocks : AreBlocks raw (suffix_words suffixes) blocks
  pub are_parts : AreParts raw (suffix_words suffixes) parts

-- ---- which suffixes were gone on from

abbrev pub AreFinished : RawValue → List Word → List ℕ → ℕ → Type 0
AreFinished raw listed blocks count = (place first second : ℕ) (letter : List Bool) → place < count → AreTogether raw blocks first second
    → length letter ≡ raw.arena.slots → accepts_at raw listed place (next_in raw first letter) ≡ accepts_at raw listed place (next_in raw second letter)

pub record IsSeparated (raw : RawValue) (listed : List Word) : Type 0 where
  pub block_numbers : List ℕ
  pub are_listed : AreListed raw listed
  pub are_blocks : AreBlocks raw listed block_numbers
  pub are_finished : AreFinished raw listed block_numbers (length listed)

-- ---- steps

-- how many of the numbers below n pass a test, and the sum of a function there
abbrev pub count_below : ℕ → (ℕ → Bool) → ℕ
count_below zero test = 0
count_below (suc n) test = (if test n then 1 else 0) + count_below n test

abbrev pub sum_below : ℕ → (ℕ → ℕ) → ℕ
sum_below zero count = 0
sum_below (suc n) count = count n + sum_below n count

-- how many pairs of states are in one block
unfoldable pub pairs_together : ℕ → List ℕ → ℕ
pairs_together states blocks = sum_below states (λ first. count_below states (λ second. block_of blocks first == block_of blocks second))

-- each suffix that is added splits a block
pub record Advances (raw : RawValue) (listed : List Word) (blocks : List ℕ) (new_listed : List Word) (new_blocks : List ℕ) : Type 0 where
  pub words : (place : ℕ) → place < length listed → word_at new_listed place ≡ word_at listed place
  pub more : length listed ≤ length new_listed
  pub finer : (first second : ℕ) → AreTogether raw new_blocks first second → AreTogether raw blocks first second
  pub fewer : length new_listed + pairs_together (length raw.rows) new_blocks ≤ length listed + pairs_together (length raw.rows) blocks
