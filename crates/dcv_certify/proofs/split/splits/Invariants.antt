use Rattle.std.proofs.Common.{◌≡◌, ℕ, ◌<◌}
use Rattle.std.specs.Prelude.{IsFalse}
use Rattle.dcv_certify.specs.Split.{number_at, bit_at}
use Rattle.dcv_certify.proofs.split.splits.Given as goal

-- where none was found, the entries before this place have the bits of their classes
abbrev pub invariant-loop-entry : goal.invariant-loop-entry
invariant-loop-entry l = IsFalse l.found → (entry : ℕ) → entry < l.entry → bit_at l.column entry ≡ bit_at l.column (number_at l.old entry)
