-- Counts of the calls of the outside that have failed. A count is kept in 64 bits and stops at its last value.
use Rattle.std.specs.Prelude.{◌≡◌, ℕ, ◌+◌, ◌-◌, ◌^◌, ◌≤◌, min, Bool, ◌||◌, ◌==◌, nat_lt, IsTrue, MatchBool}

-- The count grew, or it stands at its last value, 2^64 - 1, and can't.
abbrev pub has_risen : ℕ → ℕ → Bool
has_risen before after = nat_lt before after || (after == (2 ^ 64 - 1))

-- the count has risen, and did not fall
pub record Rises (before after : ℕ) : Type 0 where
  pub risen : IsTrue (has_risen before after)
  pub no_lower : before ≤ after

-- the count has risen if the test is true, and else is as it was
abbrev pub RisesIf : Bool → ℕ → ℕ → Type 0
RisesIf test before after = MatchBool test (Rises before after) (after ≡ before)

-- one higher, up to the last value
abbrev pub raised : ℕ → ℕ
raised count = min (count + 1) (2 ^ 64 - 1)
