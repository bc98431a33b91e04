use Rattle.std.proofs.Common.{◌≡◌, ◌<◌, ℕ, length, get_or}
use Rattle.dcv_replay.proofs.selecting.literals.Given as goal

-- the numbers so far stand in their places
abbrev pub invariant-loop-number : goal.invariant-loop-number
invariant-loop-number l = record {
  long : length l.store.items ≡ l.number;
  each : (place : ℕ) → place < l.number → get_or l.store.items place 0 ≡ place;
}
