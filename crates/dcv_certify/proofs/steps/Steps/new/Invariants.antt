use Rattle.std.proofs.Common.{◌≡◌, ◌-◌, ℕ, length, get_or, None}
use Rattle.dcv_certify.proofs.steps.Steps.new.Given as goal

-- no letter is kept
abbrev pub invariant-loop-kept : goal.invariant-loop-kept
invariant-loop-kept l = (place : ℕ) → get_or l.kept.items place None ≡ None

abbrev pub decreases-loop-kept : goal.decreases-loop-kept
decreases-loop-kept l = 2048 - length l.kept.items
