-- For the proofs: numbers of entries, split by a column of bits. The number of an entry is the least entry of its class.
--     number_at, bit_at                the number, and the bit, of an entry
--     AreOwn numbers                   each number is no later than its entry, and is its own
--     IsLeastWith old column entry n   n is the least entry that had the entry's number and has its bit
--     IsSplit old column new           so it is with all entries
--     IsMoved .. place class moved     the first entry before this place that leaves its class, where some does
--     HasMoved old column place moved  so it is with all classes
use Rattle.std.specs.Prelude.{◌≡◌, ◌≢◌, ℕ, ◌<◌, ◌≤◌, Bool, false, List, length, Option, None, Some, slice_index_or}

abbrev pub number_at : List ℕ → ℕ → ℕ
number_at numbers entry = slice_index_or numbers entry 0

abbrev pub bit_at : List Bool → ℕ → Bool
bit_at column entry = slice_index_or column entry false

pub record AreOwn (numbers : List ℕ) : Type 0 where
  pub no_later : (entry : ℕ) → entry < length numbers → number_at numbers entry ≤ entry
  pub own : (entry : ℕ) → entry < length numbers → number_at numbers (number_at numbers entry) ≡ number_at numbers entry

pub record IsLeastWith (old : List ℕ) (column : List Bool) (entry least : ℕ) : Type 0 where
  pub no_later : least ≤ entry
  pub same_class : number_at old least ≡ number_at old entry
  pub same_bit : bit_at column least ≡ bit_at column entry
  pub none_before : (other : ℕ) → other < least → number_at old other ≡ number_at old entry → bit_at column other ≢ bit_at column entry

pub record IsSplit (old : List ℕ) (column : List Bool) (new : List ℕ) : Type 0 where
  pub count : length new ≡ length old
  pub each : (entry : ℕ) → entry < length old → IsLeastWith old column entry (number_at new entry)

pub record IsFirstMoved (old : List ℕ) (column : List Bool) (place class first : ℕ) : Type 0 where
  pub before : first < place
  pub of_class : number_at old first ≡ class
  pub leaves : bit_at column first ≢ bit_at column class
  pub none_before : (entry : ℕ) → entry < first → number_at old entry ≡ class → bit_at column entry ≡ bit_at column class

abbrev pub IsMoved : List ℕ → List Bool → ℕ → ℕ → Option ℕ → Type 0
IsMoved old column place class None = (entry : ℕ) → entry < place → number_at old entry ≡ class → bit_at column entry ≡ bit_at column class
IsMoved old column place class (Some first) = IsFirstMoved old column place class first

pub record HasMoved (old : List ℕ) (column : List Bool) (place : ℕ) (moved : List (Option ℕ)) : Type 0 where
  pub count : length moved ≡ length old
  pub each : (class : ℕ) → class < length old → IsMoved old column place class (slice_index_or moved class None)
