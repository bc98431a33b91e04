use Rattle.std.proofs.Common.{◌≡◌, ℕ, ◌<◌}
use Rattle.dcv_certify.specs.Certified.{landed}
use Rattle.dcv_certify.proofs.words.first_astray.Given as goal

-- the words of the states before this place lead to them
abbrev pub invariant-loop-place : goal.invariant-loop-place
invariant-loop-place l = (other : ℕ) → other < l.place → landed l.file other ≡ other
