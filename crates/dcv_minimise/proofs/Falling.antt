-- Rounds come to an end: each but the last makes a block more, and there are no more blocks than states.
use Rattle.std.proofs.Common.{◌<◌, ◌≤◌, ◌+◌, ◌-◌, min, inl, inr, ℕ, arith}
use Rattle.std.proofs.lemmas.Bool.{cases_lt}

-- one more block, or no state that moves
pub falls : (states old new before after : ℕ) → 0 < before → new ≤ states → old ≤ new → (0 < after → old < new) → (states - new) + min 1 after < (states - old) + min 1 before
falls states old new before after some few no_fewer more = elim (cases_lt 0 after) [
  | inl moves ↦ omega (arith, more moves)
  | inr none ↦ omega arith
]
