-- The states of a raw automaton in blocks, by which words they go on to accept.
--     IsPartition raw blocks     states in one block go on alike, and states in two blocks are apart
use Rattle.std.specs.Prelude.{◌≡◌, ◌≢◌, ℕ, ◌<◌, Bool, List, length}
use Rattle.dcv_refinement.specs.Members.{block_of}
use Rattle.dcv_language.specs.Folding.{AreApartFrom}
use Rattle.dcv_dfa.specs.Raw.{RawValue, is_accepting, next_in, automaton_of}

pub record IsPartition (raw : RawValue) (blocks : List ℕ) : Type 0 where
  -- a block for each state, with a number below the number of states
  pub each : length blocks ≡ length raw.rows
  pub numbers : (state : ℕ) → state < length raw.rows → block_of blocks state < length raw.rows
  -- one block: both accept or neither does, and each letter leads to one block
  pub flags : (first second : ℕ) → first < length raw.rows → second < length raw.rows → block_of blocks first ≡ block_of blocks second
      → is_accepting raw first ≡ is_accepting raw second
  pub steps : (first second : ℕ) (letter : List Bool) → first < length raw.rows → second < length raw.rows → block_of blocks first ≡ block_of blocks second
      → length letter ≡ raw.arena.slots → block_of blocks (next_in raw first letter) ≡ block_of blocks (next_in raw second letter)
  -- two blocks: some word, maybe empty, is accepted from exactly one of them
  pub apart : (first second : ℕ) → first < length raw.rows → second < length raw.rows → block_of blocks first ≢ block_of blocks second
      → AreApartFrom raw.arena.slots (automaton_of raw) first second
