-- A memo after one round more.
use Rattle.std.proofs.Common.{◌≡◌, ◌+◌, ℕ, inl, inr, arith}
use Rattle.std.proofs.lemmas.Bool.{cases_order}
use Rattle.dcv_apply.specs.Memo.{MemoValue, KeepsOthers}
use Rattle.dcv_atoms.specs.Rounds.{HasEarlier}

-- entries of other rounds were there before
pub one_round : (round next : ℕ) (old new : MemoValue) → next ≡ round + 1 → HasEarlier round old → KeepsOthers round old new → HasEarlier next new
one_round round next old new is earlier others entry there = elim (cases_order entry.round round) [
  | inl same ↦ omega (arith, is, same)
  | inr (inl before) ↦ omega (arith, is, before)
  | inr (inr behind) ↦ omega (arith, is, earlier entry (others entry there (λ same. omega (arith, same, behind))))
]
