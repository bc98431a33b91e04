use Rattle.std.proofs.Common.{◌≡◌, ℕ, ◌<◌, length, get_or, false}
use Rattle.std.specs.Prelude.{nat_eq}
use Rattle.dcv_automaton_read.proofs.letters.spelled.Given as goal

-- the values so far are those of the digits
abbrev pub invariant-loop-slot : goal.invariant-loop-slot
invariant-loop-slot l = (length l.letter ≡ length l.digits) × ((k : ℕ) → k < l.slot → get_or l.letter k false ≡ nat_eq 49 (get_or l.digits k 0))
