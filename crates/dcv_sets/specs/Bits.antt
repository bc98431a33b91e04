-- A set of states as bits, those of 32 states a word, and which sets are kept so.
--     has_state words state        whether the state's bit is 1
--     with_state words state       with the state's bit 1
--     bits_of width states         so many words, in which the bits of these states alone are 1
--     states_below has count       the numbers below the count that have something, in ascending order
--     states_in words              the states whose bits are 1, in ascending order
--     width_of states              how many words have the bits of an ascending list
--     is_dense states              whether the list is kept as bits: it is not short, and its bits take no more words than it does
--     kept states                  the words in which an ascending list is kept
--     states_kept dense words      the states that are kept in these words
--     IsKept dense words           they are in the one form that is for their states
use Rattle.std.specs.Prelude.{◌≡◌, ℕ, zero, suc, ◌+◌, ◌-◌, ◌*◌, ◌/◌, ◌%◌, ◌^◌, ◌<◌, ◌≤◌, Bool, true, ◌&&◌, List, [], ◌∷◌, ◌++◌, length, get_or, set, replicate, nat_le, ◌==◌, bit_or, AllPairs, if◌then◌else◌}
use Rattle.std.specs.List.{fold}
use Rattle.std.specs.Int.{bit_at}

abbrev pub has_state : List ℕ → ℕ → Bool
has_state words state = bit_at (get_or words (state / 32) 0) (state % 32) == 1

abbrev pub with_state : List ℕ → ℕ → List ℕ
with_state words state = set words (state / 32) (bit_or (get_or words (state / 32) 0) (2 ^ (state % 32)))

abbrev pub bits_of : ℕ → List ℕ → List ℕ
bits_of width states = fold with_state (replicate width 0) states

abbrev pub states_below : (ℕ → Bool) → ℕ → List ℕ
states_below has zero = []
states_below has (suc count) = if has count then states_below has count ++ count ∷ [] else states_below has count

abbrev pub states_in : List ℕ → List ℕ
states_in words = states_below (has_state words) (32 * length words)

abbrev pub width_of : List ℕ → ℕ
width_of states = get_or states (length states - 1) 0 / 32 + 1

abbrev pub is_dense : List ℕ → Bool
is_dense states = nat_le 64 (length states) && nat_le (width_of states) (length states)

abbrev pub kept : List ℕ → List ℕ
kept states = if is_dense states then bits_of (width_of states) states else states

abbrev pub states_kept : Bool → List ℕ → List ℕ
states_kept dense words = if dense then states_in words else words

pub record IsKept (bits : Bool) (words : List ℕ) : Type 0 where
  pub form : bits ≡ is_dense (states_kept bits words)
  pub one : words ≡ kept (states_kept bits words)
  pub ascends : AllPairs (λ (x y : ℕ). x < y) (states_kept bits words)
  pub width : bits ≡ true → length words ≤ 2 ^ 27
